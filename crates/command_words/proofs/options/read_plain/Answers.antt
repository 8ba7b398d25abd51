-- What `clap` makes of words that are not odd is what the definition makes of them.
use Rattle.std.proofs.Common.{◌≡◌, ◌∙◌, ap, map, [], inl, inr, refl, rules, sym, string_bytes}
use Rattle.clap.specs.Words.{app_of, found_of, kind_of}
use Rattle.clap.specs.Simple.{is_simple, matches_of}
use Rattle.clap.specs.Kinds.{HasKind}
use Rattle.clap.specs.Faults.{fault_of, is_simple_and_free}
use Rattle.clap.specs.declared.error.kind.ErrorKind.TheVariants as kind
use Rattle.command_words.specs.Options.{command_line}
use Rattle.command_words.specs.Shapes.{known_option, options_app}
use Rattle.command_words.proofs.ClapFacts.{among-full, has-options, options-free, options-read, options-refused, options-simple}
use Rattle.command_words.proofs.options.read_plain.Goals as goal

pub returns-in-Ok-try_get_matches_from-clause-ok : goal.returns-in-Ok-try_get_matches_from-clause-ok
returns-in-Ok-try_get_matches_from-clause-ok c =
    let app = c.in-Ok.ensures in
    let name = c.args.name.now in
    let known = map known_option c.args.known.now in
    let texts = map string_bytes c.args.words.now in
    let none : fault_of (options_app name known) texts ≡ [] =
    ap (λ a. fault_of a texts) (sym app) ∙ c.in-Ok-try_get_matches_from.ensures.kinds (ap is_simple_and_free app ∙ options-free name known) in
    let (given, line, rows) = options-read name known texts c.requires none in
    let found = c.in-Ok-try_get_matches_from.ensures.matches (ap is_simple app ∙ options-simple name known) in
    has-options (command_line known texts) given (found_of c.in-Ok-try_get_matches_from.matches) line (found.0 ∙ ap (λ a. matches_of a texts) app ∙ rows)

pub returns-else-eq-clause-err : goal.returns-else-eq-clause-err
returns-else-eq-clause-err c =
    let app = c.in-Ok.ensures in
    let name = c.args.name.now in
    let known = map known_option c.args.known.now in
    let texts = map string_bytes c.args.words.now in
    let other : kind_of c.in-Err.fault ≡ kind.OutOfMemory → ⊥ = search (rules, c.if-eq.ensures, c.if-eq.false) in
    let has : HasKind (fault_of (app_of c.in-Ok.command) texts) c.in-Err.fault =
    c.in-Err.ensures.kinds (ap is_simple_and_free app ∙ options-free name known) in
    inr (
      refl,
      options-refused name known texts c.requires (λ none. elim has [
        | inl memory ↦ other memory
        | inr among ↦ among-full _ _ among (ap (λ a. fault_of a texts) app ∙ none)
      ]),
    )
