-- What holds at each turn of `read`.
use Rattle.std.proofs.Common.{◌≡◌, length}
use Rattle.std.specs.Prelude.{encode_utf8_all}
use Rattle.text_forms.specs.Forms.{IsSoFar}
use Rattle.text_forms.proofs.read.Given as goal

abbrev pub invariant-loop-c : goal.invariant-loop-c
invariant-loop-c g l = record { far : IsSoFar (g.F.Form.rest l.fn.form) l.yielded (g.F.Form.rest l.form l.byte); place : l.byte ≡ length (encode_utf8_all l.yielded); kept : g.F.Form.stands l.form }
