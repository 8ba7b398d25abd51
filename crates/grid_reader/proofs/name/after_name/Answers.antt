-- That `after_name` ensures what it says.
use Rattle.std.proofs.Common.{◌≡◌, ◌∙◌, ◌++◌, sym, ap, string_bytes, string_len, eqb-true}
use Rattle.std.proofs.lemmas.Bool.{eqb-false}
use Rattle.std.proofs.lemmas.Bool.Decides.{Decides-eqb}
use Rattle.std.proofs.lemmas.Slice.Eq.{strip_prefix_is}
use Rattle.olap_meaning.specs.Texts.{name_text}
use Rattle.grid_reader.proofs.NameEnds.{is_read, is_a_text, no_bytes, name_found, rest_found}
use Rattle.grid_reader.proofs.name.after_name.Goals as goal

pub returns-in_default-from_utf8-clause-wherever :
    goal.returns-in_default-from_utf8-clause-wherever
returns-in_default-from_utf8-clause-wherever c one rest h n e =
    is_a_text c.in_ok-bytes.bytes.items one h (is_read c.args.text.now c.in_ok-bytes.bytes.items c.in_ok-bytes.ensures one rest h n e) c.in_default-from_utf8.ensures.succeeds

pub returns-then-is_empty-clause-wherever : goal.returns-then-is_empty-clause-wherever
returns-then-is_empty-clause-wherever c one rest h n e =
    let read = is_read c.args.text.now c.in_ok-bytes.bytes.items c.in_ok-bytes.ensures one rest h n e in
    let none = no_bytes c.in-Ok.name (eqb-true (string_len c.in-Ok.name) 0 (sym c.if-is_empty.ensures)) in
    h.0 (sym read ∙ ap (λ v. v.items) (sym c.in-Ok.ensures.ok) ∙ none)

pub returns-clause-only : goal.returns-clause-only
returns-clause-only c =
    let cases = strip_prefix_is Decides-eqb c.args.text.now c.as_bytes.result.now c.strip_prefix.result c.strip_prefix.ensures.cases in
    let written : c.as_bytes.result.now ≡ name_text (string_bytes c.in-Ok.name) = c.as_bytes.ensures.value ∙ c.as_str-2.ensures ∙ c.in_ok-written.ensures ∙ ap name_text c.as_str.ensures.value in
    name_found c.args.text.now c.as_bytes.result.now c.in-Ok.name c.strip_prefix.result cases written (eqb-false (string_len c.in-Ok.name) 0 (sym c.if-is_empty.ensures))

pub returns-clause-wherever : goal.returns-clause-wherever
returns-clause-wherever c one rest h n e =
    let cases = strip_prefix_is Decides-eqb c.args.text.now c.as_bytes.result.now c.strip_prefix.result c.strip_prefix.ensures.cases in
    let written : c.as_bytes.result.now ≡ name_text (string_bytes c.in-Ok.name) = c.as_bytes.ensures.value ∙ c.as_str-2.ensures ∙ c.in_ok-written.ensures ∙ ap name_text c.as_str.ensures.value in
    let read = is_read c.args.text.now c.in_ok-bytes.bytes.items c.in_ok-bytes.ensures one rest h n e in
    rest_found c.args.text.now c.as_bytes.result.now rest c.strip_prefix.result cases (e ∙ ap (λ x. name_text x ++ rest) (sym read ∙ ap (λ v. v.items) (sym c.in-Ok.ensures.ok)) ∙ ap (λ x. x ++ rest) (sym written))
