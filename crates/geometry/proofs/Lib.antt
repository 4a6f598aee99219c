pub mod RectLaws
