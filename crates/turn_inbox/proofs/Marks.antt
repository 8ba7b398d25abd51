-- What a turn with one mark leaves.
use Rattle.std.proofs.Common.{◌≡◌, ℕ, Bool, cond, List, [], ◌∷◌, ◌++◌, Result, Ok, Err, sym, ap, ◌∙◌, subst, inl, eq-eqb, append_assoc}
use Rattle.std.specs.Prelude.{IfOk, MatchResult}
use Rattle.std.proofs.lemmas.List.Elements.{filter-append}
use mathlib.Core.List.{IsPrefix}
use Rattle.turn_inbox.specs.Entries.{by, AllBy}
use Rattle.turn_inbox.specs.declared.ledger.Mark.{Mark}

abbrev pub mark_of : ℕ → ℕ → Mark
mark_of seat number = record { seat = seat; number = number }

abbrev pub seat_of : Mark → ℕ
seat_of m = m.seat

module _ {E A B : Type 0} where
  -- the list is the old one and the entry, or as it was
  abbrev pub Ends : Result A B → List E → List E → E → Type 0
  Ends answer turn after e = MatchResult answer (λ _. after ≡ turn ++ e ∷ []) (λ _. after ≡ turn)

  pub goes_on : (answer : Result A B) (old turn after new : List E) (e : E) → Ends answer turn after e → new ≡ after → IsPrefix old turn → IsPrefix old new
  goes_on (Ok a) old turn after new e ends is p = (p.0 ++ e ∷ [], sym (append_assoc old p.0 (e ∷ [])) ∙ (ap (λ l. l ++ e ∷ []) p.1 ∙ sym (is ∙ ends)))
  goes_on (Err b) old turn after new e ends is p = (p.0, p.1 ∙ sym (is ∙ ends))

  pub ends_with : (answer : Result A B) (old turn after new : List E) (e : E) → Ends answer turn after e → new ≡ after → IsPrefix old turn → IfOk answer (λ _. (before : List E) × IsPrefix old before × (new ≡ before ++ e ∷ []))
  ends_with (Ok a) old turn after new e ends is p = (turn, p, is ∙ ends)
  ends_with (Err b) old turn after new e ends is p = tt

  pub one_more : (of : E → ℕ) (answer : Result A B) (k : ℕ) (old turn after new : List E) (e : E) → Ends answer turn after e → new ≡ after → by of k turn ≡ by of k old → of e ≡ k
      → MatchResult answer (λ _. by of k new ≡ by of k old ++ e ∷ []) (λ _. by of k new ≡ by of k old)
  one_more of (Ok a) k old turn after new e ends is mine own =
      let one : by of k (e ∷ []) ≡ e ∷ [] = ap (λ (b : Bool). cond b (e ∷ []) []) (eq-eqb (of e) k own) in
      ap (by of k) (is ∙ ends) ∙ (filter-append _ turn (e ∷ []) ∙ (ap (λ l. by of k turn ++ l) one ∙ ap (λ l. l ++ e ∷ []) mine))
  one_more of (Err b) k old turn after new e ends is mine own = ap (by of k) (is ∙ ends) ∙ mine

-- a mark of nobody that was added to none, or was not
pub nobodys : {A B : Type 0} (answer : Result A B) (old new : List Mark) (e : Mark) → Ends answer old new e → old ≡ [] → seat_of e ≡ 0 → AllBy seat_of 0 new
nobodys (Ok a) old new e ends none own = subst (AllBy seat_of 0) (sym (ends ∙ ap (λ l. l ++ e ∷ []) none)) (inl own, tt)
nobodys (Err b) old new e ends none own = subst (AllBy seat_of 0) (sym (ends ∙ none)) tt
