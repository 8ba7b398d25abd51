-- Closing texts: from each state some text goes on to a whole.
use Rattle.std.specs.Prelude.{ℕ, [], ◌∷◌}
use Rattle.std.proofs.Common.{arith, inr, refl}
use Rattle.std.proofs.lemmas.Str.Ascii.{IsAscii-nil, IsAscii-cons}
use Rattle.text_forms.specs.Forms.{GoesOn}
use Rattle.command_arguments.specs.declared.blank.BlankReader.{BlankReader}
use Rattle.command_arguments.specs.declared.position.PositionReader.{PositionReader}
use Rattle.command_arguments.specs.declared.position.PositionReader.TheVariants.{Before, Digits, Behind}
use Rattle.command_arguments.specs.Blank as blank
use Rattle.command_arguments.specs.Position as position

-- after white nothing needs to come
pub blank_closes : (state : BlankReader) (at : ℕ) → Unit {0} → GoesOn (blank.rest_of state at)
blank_closes state at h = record { closing = []; whole = tt; ascii = IsAscii-nil; goes = refl }

-- before a position the digit 0 may come, and after its digits nothing needs to come
pub position_closes : (state : PositionReader) (at : ℕ) → position.fits state
    → GoesOn (position.rest_of state at)
position_closes Before at h = record {
  closing = 48 ∷ [];
  whole = 0;
  ascii = IsAscii-cons 48 [] (omega arith) IsAscii-nil;
  goes = inr ((omega arith, omega arith), (refl, refl));
}
position_closes (Digits number left) at h = record {
  closing = [];
  whole = number;
  ascii = IsAscii-nil;
  goes = (refl, refl);
}
position_closes (Behind number) at h = record {
  closing = [];
  whole = number;
  ascii = IsAscii-nil;
  goes = (refl, refl);
}
