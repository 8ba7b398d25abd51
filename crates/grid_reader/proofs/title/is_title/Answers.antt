-- That `is_title` ensures what it says.
use Rattle.std.proofs.Common.{◌≡◌, ◌≢◌, ◌∙◌, ◌++◌, sym, refl, length, eqb-true}
use Rattle.std.proofs.lemmas.Bool.{eqb-false, false≢true}
use Rattle.std.proofs.lemmas.List.{nil_from_length}
use Rattle.olap_meaning.specs.Texts.{name_text}
use Rattle.query_meaning.specs.Titles.{TitleName, IsTitleName, marked_name}
use Rattle.grid_reader.proofs.TitleSteps.{title_begins, title_goes_on, title_ends, title_names, marked_names, not_none, names_behind, found_at, shorter}
use Rattle.grid_reader.proofs.title.is_title.Goals as goal

pub returns-in_default : goal.returns-in_default
returns-in_default c =
    let some : length c.args.field.now ≢ 0 = eqb-false (length c.args.field.now) 0 (sym c.is_empty.ensures ∙ c.if-is_empty.false) in
    (λ e. absurd (false≢true e), λ t. absurd (not_none (λ one. name_text one.name) c.args.field.now c.in_ok-rest.field-0 c.in_ok-rest.ensures.wherever c.in_default.is (title_names c.args.field.now some t)))

pub loop-rest-init : goal.loop-rest-init
loop-rest-init c =
    let some : length c.args.field.now ≢ 0 = eqb-false (length c.args.field.now) 0 (sym c.is_empty.ensures ∙ c.if-is_empty.false) in
    let only = found_at (λ behind. (one : TitleName) × IsTitleName one × (c.args.field.now ≡ name_text one.name ++ behind.now)) c.in_ok-rest.field-0 c.in-Some.rest c.in_ok-rest.ensures.only c.in-Some.is in
    record {
      before = title_begins c.args.field.now c.in-Some.rest.now only.0 only.1 only.2;
      behind = λ t. names_behind (λ one. name_text one.name) c.args.field.now c.in_ok-rest.field-0 c.in_ok-rest.ensures.wherever c.in-Some.rest c.in-Some.is (title_names c.args.field.now some t);
    }

pub returns-in_default-2 : goal.returns-in_default-2
returns-in_default-2 c =
    let some : length c.loop-rest.rest.now ≢ 0 = eqb-false (length c.loop-rest.rest.now) 0 (sym c.is_empty-in-loop-rest.ensures ∙ c.loop-rest-test.true) in
    (λ e. absurd (false≢true e), λ t. absurd (not_none marked_name c.loop-rest.rest.now c.in_ok-behind.field-0 c.in_ok-behind.ensures.wherever c.in_default-2.is (marked_names c.loop-rest.rest.now some (c.loop-rest.invariant.behind t))))

pub loop-rest-preserved : goal.loop-rest-preserved
loop-rest-preserved c =
    let some : length c.loop-rest.rest.now ≢ 0 = eqb-false (length c.loop-rest.rest.now) 0 (sym c.is_empty-in-loop-rest.ensures ∙ c.loop-rest-test.true) in
    let only = found_at (λ behind. (one : TitleName) × IsTitleName one × (c.loop-rest.rest.now ≡ marked_name one ++ behind.now)) c.in_ok-behind.field-0 c.in-Some-2.behind c.in_ok-behind.ensures.only c.in-Some-2.is in
    record {
      before = title_goes_on c.args.field.now c.loop-rest.rest.now c.in-Some-2.behind.now only.0 c.loop-rest.invariant.before only.1 only.2;
      behind = λ t. names_behind marked_name c.loop-rest.rest.now c.in_ok-behind.field-0 c.in_ok-behind.ensures.wherever c.in-Some-2.behind c.in-Some-2.is (marked_names c.loop-rest.rest.now some (c.loop-rest.invariant.behind t));
    }

pub loop-rest-smaller : goal.loop-rest-smaller
loop-rest-smaller c =
    let only = found_at (λ behind. (one : TitleName) × IsTitleName one × (c.loop-rest.rest.now ≡ marked_name one ++ behind.now)) c.in_ok-behind.field-0 c.in-Some-2.behind c.in_ok-behind.ensures.only c.in-Some-2.is in
    shorter c.loop-rest.rest.now c.in-Some-2.behind.now only.0 only.2

pub returns : goal.returns
returns c =
    let none : length c.loop-rest.rest.now ≡ 0 = eqb-true (length c.loop-rest.rest.now) 0 (sym c.is_empty-in-loop-rest.ensures ∙ c.loop-rest-test.false) in
    (λ e. title_ends c.args.field.now c.loop-rest.rest.now c.loop-rest.invariant.before (nil_from_length c.loop-rest.rest.now none), λ t. refl)
