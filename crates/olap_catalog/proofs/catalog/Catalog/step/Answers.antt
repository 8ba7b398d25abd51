-- That `step` ensures `err` and `ok`.
use Rattle.std.proofs.Common.{◌≡◌, ◌∙◌, ◌⊎◌, ℕ, ap, sym, Ok, Err, option_map, ok_or, inl, inr}
use Rattle.std.specs.Option.{option_or}
use Rattle.olap_meaning.specs.Catalog.{named}
use Rattle.olap_catalog.specs.declared.fault.NameFault.TheVariants.{UnknownMember, OutOfMemory}
use Rattle.catalog_tables.specs.Names.{is_but_case}
use Rattle.olap_catalog.specs.Members.{spot, onward, below_by, members_below}
use Rattle.std.specs.Str.{bytes_eq}
use Rattle.olap_catalog.proofs.StepFacts.{step_is}
use Rattle.olap_catalog.proofs.catalog.Catalog.step.Goals as goal

with_fact : {A : Type 0} {F : Type 0} (fault a b : F) → A → (fault ≡ a) ⊎ (fault ≡ b) → (fault ≡ a) ⊎ ((fault ≡ b) × A)
with_fact fault a b fact (inl e) = inl e
with_fact fault a b fact (inr e) = inr (e, fact)

pub returns-in-None-clause-err : goal.returns-in-None-clause-err
returns-in-None-clause-err c =
    let none : (cube : ℕ) → named c.args.self.now cube (members_below c.args.self.now c.args.h c.args.with_all c.args.path) c.args.name.now ≡ Err c.args.name.now =
    λ cube. step_is c.args.self.now cube c.args.h c.args.with_all c.args.path c.args.name.now c.find_below.result c.requires
    (c.find_below.ensures ∙ ap (λ p. option_or (below_by (bytes_eq c.as_str.result.now) c.args.self.now c.args.h c.args.with_all p) (below_by (is_but_case c.as_str.result.now) c.args.self.now c.args.h c.args.with_all p)) c.as_slice.ensures
    ∙ ap (λ n. option_or (below_by (bytes_eq n) c.args.self.now c.args.h c.args.with_all c.args.path) (below_by (is_but_case n) c.args.self.now c.args.h c.args.with_all c.args.path)) c.as_str.ensures)
    ∙ ap (λ o. ok_or (option_map (λ b. spot c.args.h (onward c.args.path b)) o) c.args.name.now) c.in-None.is in
    with_fact c.unknown.result OutOfMemory (UnknownMember c.args.name.now) none c.unknown.ensures

pub returns-in-Ok-clause-ok : goal.returns-in-Ok-clause-ok
returns-in-Ok-clause-ok c cube =
    step_is c.args.self.now cube c.args.h c.args.with_all c.args.path c.args.name.now c.find_below.result c.requires
    (c.find_below.ensures ∙ ap (λ p. option_or (below_by (bytes_eq c.as_str.result.now) c.args.self.now c.args.h c.args.with_all p) (below_by (is_but_case c.as_str.result.now) c.args.self.now c.args.h c.args.with_all p)) c.as_slice.ensures
    ∙ ap (λ n. option_or (below_by (bytes_eq n) c.args.self.now c.args.h c.args.with_all c.args.path) (below_by (is_but_case n) c.args.self.now c.args.h c.args.with_all c.args.path)) c.as_str.ensures)
    ∙ ap (λ o. ok_or (option_map (λ b. spot c.args.h (onward c.args.path b)) o) c.args.name.now) c.in-Some.is
    ∙ ap (λ p. Ok (spot c.args.h p)) (sym c.in-Ok.ensures)
