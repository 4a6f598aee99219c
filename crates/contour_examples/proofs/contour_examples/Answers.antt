use mathlib.Core.Path.{refl}
use Rattle.contour_examples.proofs.Computed.{shown}
use Rattle.contour_examples.proofs.contour_examples.Goals as goal

pub returns : goal.returns
returns c = record { count = refl; hold = shown }
