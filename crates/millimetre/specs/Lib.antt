pub mod Millimetres
