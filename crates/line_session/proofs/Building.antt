-- An AGG is replied to by the table of its name.
use Rattle.std.proofs.Common.{◌≡◌, refl, sym, ◌∙◌, ap, subst, ℕ, ◌≤◌, ◌⊎◌, List, [], Option, Some, None, Result, Ok, Err, inl, inr, arith}
use Rattle.std.specs.Prelude.{IfOk, MatchResult}
use Rattle.olap_meaning.specs.Catalog.{find_agg}
use Rattle.olap_meaning.specs.declared.OutOfMemory.{OutOfMemory}
use Rattle.olap_meaning.specs.declared.tables.Catalog.{Catalog}
use Rattle.query_meaning.specs.Replies.{built_reply, no_memory_reply, no_table_reply}
use Rattle.input_lines.specs.Requests.{Agg}
use Rattle.installed_tables.specs.Installed.{present_rows}
use Rattle.history_core.specs.declared.answers.AggBuilt.{AggBuilt}
use Rattle.line_session.specs.Desks.{AddsNone, DeskOf, HasBuilt, costs_between}
use Rattle.line_session.specs.Replies.{AnswersAgg, Dealing, IsRead, catalog_of, rows_to_build}
use Rattle.line_session.proofs.Replying.{between, stands_still}

-- what is replied to an AGG and read for it
abbrev pub IsDone : Dealing → List ℕ → Option ℕ → Option ℕ → List ℕ → ℕ → Type 0
IsDone around name table position reply read = AnswersAgg around name table position reply × IsRead around (Agg name) position read

-- the table was built
pub table_built : (before after : DeskOf) (name : List ℕ) (found : Option ℕ) (table : ℕ) (built : AggBuilt) (reply : List ℕ) → found ≡ Some table → HasBuilt before after table built → reply ≡ built_reply built.position built.version built.groups → IsDone (between before after []) name found (Some built.position) reply (costs_between before after)
table_built before after name found table built reply is builds told = (
  subst (λ (o : Option ℕ). AnswersAgg (between before after []) name o (Some built.position) reply) (sym is) (refl, inl (record { built = built; builds = builds; position_is = refl; text = told })),
  ((λ _. refl), omega arith),
)

-- how many rows the version of a table has that was not built
rows_are : (around : Dealing) (name : List ℕ) (table : ℕ) → find_agg (catalog_of around.before) name ≡ Some table → rows_to_build around name ≡ present_rows (catalog_of around.before) around.after.cache.entries table
rows_are around name table is = rw is refl

-- there was no memory for it
pub table_lacks : (before after : DeskOf) (name : List ℕ) (known : Catalog) (table read : ℕ) (reply : List ℕ) → known ≡ before.cache.setting.catalog → find_agg known name ≡ Some table → AddsNone before after → reply ≡ no_memory_reply → read ≤ present_rows before.cache.setting.catalog after.cache.entries table
    → IsDone (between before after []) name (find_agg known name) None reply read
table_lacks before after name known table read reply same is none told few = (
  subst (λ (o : Option ℕ). AnswersAgg (between before after []) name o None reply) (sym is) (refl, inr (record { adds = none; none = refl; no_memory = told })),
  ((λ some. absurd (cc some)), (let rows = rows_are (between before after []) name table (ap (λ (k : Catalog). find_agg k name) (sym same) ∙ is) in omega (arith, few, rows))),
)

-- no table has the name, or there was no memory to tell it
pub no_table : (desk : DeskOf) (name : List ℕ) (found : Option ℕ) (made : Result (List ℕ) OutOfMemory) (reply : List ℕ) → found ≡ None → IfOk made (λ text. text ≡ no_table_reply name) → MatchResult made (λ text. reply ≡ text) (λ _. reply ≡ no_memory_reply) → IsDone (between desk desk []) name found None reply 0
no_table desk name found made reply is line told = (
  subst (λ (o : Option ℕ). AnswersAgg (between desk desk []) name o None reply) (sym is) (stands_still desk, by made line told),
  ((λ some. absurd (cc some)), omega arith),
)
  where
    by : (m : Result (List ℕ) OutOfMemory) → IfOk m (λ text. text ≡ no_table_reply name) → MatchResult m (λ text. reply ≡ text) (λ _. reply ≡ no_memory_reply) → (reply ≡ no_table_reply name) ⊎ (reply ≡ no_memory_reply)
    by (Ok text) line told = inl (told ∙ line)
    by (Err error) line told = inr told
