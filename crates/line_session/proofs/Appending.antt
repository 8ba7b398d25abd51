-- An append asks for its file once, and what came is appended.
use Rattle.std.proofs.Common.{◌≡◌, refl, sym, subst, ℕ, ◌⊎◌, List, [], ◌∷◌, Option, Some, None, Result, Ok, inl, inr}
use Rattle.std.specs.Prelude.{IfSome}
use Rattle.std.proofs.lemmas.List.Elements.{All-cons, All-nil}
use Rattle.olap_meaning.specs.declared.tables.Catalog.{Catalog}
use Rattle.fact_rows.specs.BatchFiles.{batch_of}
use Rattle.fact_rows.specs.declared.fault.BatchFault.{BatchFault}
use Rattle.fact_versions.specs.FactRows.{FactRows}
use Rattle.outside.specs.Fetched.{Fetched}
use Rattle.outside.specs.Told.{AreTheirs, Files, IsOf, file_named}
use Rattle.line_session.specs.Desks.{DeskOf}
use Rattle.line_session.specs.Replies.{AppendsRows, AppendsTo, Dealing, GivesVersion, LacksMemory, RefusesRows}
use Rattle.line_session.proofs.Replying.{between}

-- rows that were read were appended or refused, or there was no memory
pub appends_rows : (around : Dealing) (cube : ℕ) (read : Result FactRows BatchFault) (rows : FactRows) (position : Option ℕ) (reply : List ℕ) → read ≡ Ok rows
    → GivesVersion around cube rows position reply ⊎ RefusesRows around cube rows position reply ⊎ LacksMemory around position reply → AppendsRows around cube read position reply ⊎ LacksMemory around position reply
appends_rows around cube read rows position reply is (inl gives) = inl (subst (λ (r : Result FactRows BatchFault). AppendsRows around cube r position reply) (sym is) (inl gives))
appends_rows around cube read rows position reply is (inr (inl refuses)) = inl (subst (λ (r : Result FactRows BatchFault). AppendsRows around cube r position reply) (sym is) (inr refuses))
appends_rows around cube read rows position reply is (inr (inr lacks)) = inr lacks

-- a file came
pub appends_file : (before after : DeskOf) (known : Catalog) (cube : ℕ) (file bytes read reply : List ℕ) → known ≡ before.cache.setting.catalog → read ≡ bytes
    → ((asked : List Fetched) → (position : Option ℕ) × (AppendsRows (between before after asked) cube (batch_of known cube read) position reply ⊎ LacksMemory (between before after asked) position reply))
    → (position : Option ℕ) × AppendsTo (between before after ((file, Ok bytes) ∷ [])) cube file position reply
appends_file before after known cube file bytes read reply same is all = by (all ((file, Ok bytes) ∷ []))
  where
    by : (position : Option ℕ) × (AppendsRows (between before after ((file, Ok bytes) ∷ [])) cube (batch_of known cube read) position reply ⊎ LacksMemory (between before after ((file, Ok bytes) ∷ [])) position reply)
        → (position : Option ℕ) × AppendsTo (between before after ((file, Ok bytes) ∷ [])) cube file position reply
    by (position, inl rows) =
        let around : Dealing = between before after ((file, Ok bytes) ∷ []) in
        let here = subst (λ (k : Catalog). AppendsRows around cube (batch_of k cube bytes) position reply) same (subst (λ (b : List ℕ). AppendsRows around cube (batch_of known cube b) position reply) is rows) in
        (position, (Ok bytes, refl, inl here))
    by (position, inr lacks) = (position, (Ok bytes, refl, inr lacks))

-- what came is a file of the depot's, where it tells them
pub one_theirs : (files : Option Files) (file bytes : List ℕ) → IfSome files (λ all. file_named all file ≡ Some bytes) → AreTheirs files ((file, Ok bytes) ∷ [])
one_theirs None file bytes is = tt
one_theirs (Some all) file bytes is = All-cons (IsOf all) (file, Ok bytes) [] is (All-nil (IsOf all))
