-- Each step keeps the rule of the inbox.
use Rattle.std.proofs.Common.{◌≡◌, ◌≢◌, ◌⊎◌, ℕ, zero, suc, ◌+◌, ◌<◌, ◌≤◌, ◌==◌, eqb, List, [], ◌∷◌, ◌++◌, length, get_or, set, Option, Some, None, Bool, true, false, true≢false, refl, sym, ap, ◌∙◌, subst, inl, inr, ⊎_elim, arith, eq-eqb, ne_eqb, length-set}
use Rattle.std.specs.Prelude.{MatchBool}
use Rattle.std.proofs.lemmas.Bool.Decides.{nat_tests}
use mathlib.Core.Logic.{dite}
use mathlib.Core.Option.{some, none, some-injective, some-ne-none}
use mathlib.Core.List.{IsPrefix}
use native.Mathlib.Decide.{ℕ_discrete}
use lib.ListN.{get_elem?}
use prog.Atomic.{either}
use Rattle.atomic_table.specs.Table.{State, Me, Act, keeps, takes, gives, step, stepped, carried_after, Valid, opening, Allows, Splits, Joins, Final, Seen}
use Rattle.atomic_table.proofs.Lists.{at_set, set_else, set_again, at_last, at_longer}
use Rattle.turn_inbox.specs.declared.view.View.{View}
use Rattle.turn_inbox.specs.Entries.{Among, by, AllBy, AllUpTo}
use Rattle.turn_inbox.specs.Rule.{up_from, first_of, rest_of, founder, again, Has, renewed, holding, resting, looked, note_of, part_of, left_of, merged, spent, Fits, left_home, Keeps, Grown, founds, enters, publishes, leaves, looks}
use Rattle.turn_inbox.proofs.Prefixes.{prefix_self, prefix_trans, longer_prefix, longer_first, longer_second, by_grown, upto_nobody, upto_grown}

module _ {A : Type 0} where
  pub here : (l : List A) (i : ℕ) (a b : A) → get_elem? l i ≡ some a → get_elem? (set l i b) i ≡ some b
  here [] i a b e = absurd (some-ne-none a (sym e))
  here (x ∷ l) zero a b e = refl
  here (x ∷ l) (suc i) a b e = here l i a b e

  -- a fact of each member stays when one member is set
  pub set_each : (P : ℕ → A → Type 0) (l : List A) (i : ℕ) (a : A) → P i a → ((j : ℕ) (x : A) → j ≢ i → get_elem? l j ≡ some x → P j x) → (j : ℕ) (x : A) → get_elem? (set l i a) j ≡ some x → P j x
  set_each P l i a mine others j x e =
      ⊎_elim
      (λ (t : (j ≡ i) × (a ≡ x)). subst (λ (y : ℕ × A). P y.0 y.1) (λ k. (sym t.0 k, t.1 k)) mine)
      (λ (t : (j ≢ i) × (get_elem? l j ≡ some x)). others j x t.0 t.1)
      (at_set l i j a x e)

  -- a member is still there, or is the one that was set
  pub still : (Q : A → Type 0) (l : List A) (i : ℕ) (a b : A) → get_elem? l i ≡ some a → (Q a → Q b) → (j : ℕ) → (x : A) × (get_elem? l j ≡ some x) × Q x → (x : A) × (get_elem? (set l i b) j ≡ some x) × Q x
  still Q l i a b at to j old = dite (ℕ_discrete j i)
      (λ e. (b, subst (λ (n : ℕ). get_elem? (set l i b) n ≡ some b) (sym e) (here l i a b at), to (subst Q (some-injective _ _ (sym old.1 ∙ (ap (get_elem? l) e ∙ at))) old.2)))
      (λ ne. (old.0, set_else l i j b ne ∙ old.1, old.2))

off : {X : Type 0} → false ≡ true → X
off e = absurd (true≢false (sym e))

module _ {M E G : Type 0} (list : M → List E) (basis : M → G) (seat_of : E → ℕ) (lawful : G → List E → Type 0) (seats : ℕ) (g : G) where
  abbrev V : Type 0
  V = View E G

  abbrev St : Type 0
  St = State (Option M) V

  abbrev Homes : Type 0
  Homes = List (mathlib.Core.Option.Option (Option M))

  abbrev Mine : Type 0
  Mine = Me (Option M) V

  abbrev Rule : St → Type 0
  Rule = Keeps list basis seat_of lawful seats g

  abbrev Fit : List E → ℕ → (ℕ → ℕ) → ℕ → V → Type 0
  Fit h t at id v = Fits seat_of seats h g t at id v

  -- the view at the place of some number has seen the whole list
  abbrev Newest : List V → (ℕ → ℕ) → List E → Type 0
  Newest views at h = (k : ℕ) × (v : V) × (1 ≤ k) × (k ≤ seats) × (get_elem? views (at k) ≡ some v) × (v.seen ≡ h)

  -- what a view with the whole history knows
  grown : (h : List E) (t id : ℕ) (at : ℕ → ℕ) (v : V) → lawful g h → AllUpTo seat_of seats h → Fit h t at id v → Grown seat_of lawful v h
  grown h t id at v law authors f = record {
    seen = f.seen;
    told = f.told;
    law = λ k a. (g, (f.based k a).0, law);
    authors = λ k a. subst (λ (n : ℕ). AllUpTo seat_of n h) (sym (f.based k a).1) authors;
    mine = λ k es a. (f.mine k es a).3;
  }

  -- the slot and the turn stay where they are
  away_still : (s : St) (r : Rule s) (id : ℕ) (v w : V) → get_elem? s.views id ≡ some v → w.turn ≡ v.turn → w.fresh ≡ v.fresh → 1 ≤ r.turn
      → (u : V) × (r.turn ≤ seats) × (get_elem? (set s.views id w) (r.at r.turn) ≡ some u) × (u.turn ≡ true) × (s.homes ≡ left_home u.fresh)
  away_still s r id v w at t f some_turn =
      let a = r.away some_turn in
      let b = still (λ (u : V). (u.turn ≡ true) × (s.homes ≡ left_home u.fresh)) s.views id v w at (λ h. (t ∙ h.0, h.1 ∙ ap left_home (sym f))) (r.at r.turn) (a.0, a.2, (a.3, a.4)) in
      (b.0, a.1, b.1, b.2.0, b.2.1)

  owner_still : (s : St) (r : Rule s) (id : ℕ) (v w : V) → get_elem? s.views id ≡ some v → ((k : ℕ) → Has k v → Has k w) → (k : ℕ) → 1 ≤ k → k ≤ seats → (u : V) × (get_elem? (set s.views id w) (r.at k) ≡ some u) × Has k u
  owner_still s r id v w at to k lo hi = still (Has k) s.views id v w at (to k) (r.at k) (r.owner k lo hi)

  newest_still : (s : St) (r : Rule s) (id : ℕ) (v w : V) → get_elem? s.views id ≡ some v → (v.seen ≡ r.history → w.seen ≡ r.history) → Newest (set s.views id w) r.at r.history
  newest_still s r id v w at to =
      let o = r.newest in
      let n = still (λ (u : V). u.seen ≡ r.history) s.views id v w at to (r.at o.0) (o.1, o.4, o.5) in
      (o.0, n.0, o.2, o.3, n.1, n.2)

  same_has : (v w : V) → w.mine ≡ v.mine → (k : ℕ) → Has k v → Has k w
  same_has v w same k h = (h.0, subst (Among (k, h.0)) (sym same) h.1)

  -- the entries of a number in the list that its turn made
  again_from : (xs : List E) (ps : List (ℕ × List E)) (k : ℕ) (es : List E) → Among (k, es) (again seat_of xs ps) → (old : List E) × Among (k, old) ps × (by seat_of k xs ≡ es)
  again_from xs [] k es a = absurd a
  again_from xs (p ∷ ps) k es a =
      ⊎_elim
      (λ (e : (k, es) ≡ (p.0, by seat_of p.0 xs)). let here_k : k ≡ p.0 = ap (λ q. q.0) e in (p.1, inl (λ i. (here_k i, p.1)), ap (λ (n : ℕ). by seat_of n xs) here_k ∙ sym (ap (λ q. q.1) e)))
      (λ (t : Among (k, es) (again seat_of xs ps)). let m = again_from xs ps k es t in (m.0, inr m.1, m.2))
      a

  again_has : (xs : List E) (ps : List (ℕ × List E)) (k : ℕ) (old : List E) → Among (k, old) ps → Among (k, by seat_of k xs) (again seat_of xs ps)
  again_has xs [] k old a = absurd a
  again_has xs (p ∷ ps) k old a =
      ⊎_elim
      (λ (e : (k, old) ≡ p). let here_k : k ≡ p.0 = ap (λ q. q.0) e in inl (λ i. (here_k i, by seat_of (here_k i) xs)))
      (λ (t : Among (k, old) ps). inr (again_has xs ps k old t))
      a

  -- how a view of the rule is made: here once for each way in which a step leaves one, so that a further fact of `Fits` is one line in each
  -- a view that a step leaves with its numbers, and with what it has seen then
  renew : (h : List E) (t t' place : ℕ) (at : ℕ → ℕ) (v : V) (xs : List E) (ns : List ℕ) (turn fresh : Bool) → Fit h t at place v → IsPrefix xs h → (turn ≡ true → Has t' v × (xs ≡ h)) → Fit h t' at place (record v { seen = xs; looks = ns; turn = turn; fresh = fresh })
  renew h t t' place at v xs ns turn fresh f seen held = record {
    based = f.based;
    seen = seen;
    told = f.told;
    mine = f.mine;
    held = held;
  }

  -- a view that another one's step leaves as it is, while the history grows
  carry : (h h' : List E) (t t' place : ℕ) (at at' : ℕ → ℕ) (v : V) → Fit h t at place v → IsPrefix h h' → ((k : ℕ) (es : List E) → Among (k, es) v.mine → (at' k ≡ place) × (by seat_of k h' ≡ by seat_of k h)) → (v.turn ≡ true → Has t' v × (v.seen ≡ h')) → Fit h' t' at' place v
  carry h h' t t' place at at' v f more mine held = record {
    based = f.based;
    seen = prefix_trans _ _ _ f.seen more;
    told = λ xs a. prefix_trans _ _ _ (f.told xs a) more;
    mine = λ k es a. let m = f.mine k es a in let n = mine k es a in (n.0, m.1, m.2, n.1 ∙ m.3);
    held = held;
  }

  -- a view with no number
  numberless : (h : List E) (t place : ℕ) (at : ℕ → ℕ) (xs : List E) (b : Option G) (n : ℕ) → IsPrefix xs h → Fit h t at place (record (spent {E = E} {G = G}) { seen = xs; basis = b; seats = n })
  numberless h t place at xs b n seen = record {
    based = λ k a. absurd a.1;
    seen = seen;
    told = λ ys a. absurd a;
    mine = λ k es a. absurd a;
    held = λ t. off t;
  }

  -- a view with some numbers of another one, which has not the turn
  numbered : (h : List E) (t place place' : ℕ) (at at' : ℕ → ℕ) (v w : V) → Fit h t at place v → w.basis ≡ v.basis → w.seats ≡ v.seats → IsPrefix w.seen h → ((xs : List E) → Among xs w.told → IsPrefix xs h) → w.turn ≡ false → ((k : ℕ) (es : List E) → Among (k, es) w.mine → Among (k, es) v.mine × (at' k ≡ place')) → Fit h t at' place' w
  numbered h t place place' at at' v w f same many seen told idle mine = record {
    based = λ k a. let b = f.based k (a.0, (mine k a.0 a.1).0) in (same ∙ b.0, many ∙ b.1);
    seen = seen;
    told = told;
    mine = λ k es a. let n = mine k es a in let m = f.mine k es n.0 in (n.1, m.1, m.2, m.3);
    held = λ turn. off (sym idle ∙ turn);
  }

  -- the rule after a step that changes one view
  one_changed : (s : St) (r : Rule s) (id : ℕ) (v w : V) (ws : List ℕ) (hs : Homes) (h : List E) (t : ℕ) → get_elem? s.views id ≡ some v → ws ≡ length h ∷ t ∷ [] → lawful g h → AllUpTo seat_of seats h → Fit h t r.at id w
      → ((j : ℕ) (u : V) → j ≢ id → get_elem? s.views j ≡ some u → Fit h t r.at j u)
      → ((k : ℕ) → Has k v → Has k w)
      → Newest (set s.views id w) r.at h
      → (t ≡ 0 → (x : M) × (hs ≡ some (Some x) ∷ []) × (list x ≡ h) × (basis x ≡ g))
      → (1 ≤ t → (u : V) × (t ≤ seats) × (get_elem? (set s.views id w) (r.at t) ≡ some u) × (u.turn ≡ true) × (hs ≡ left_home u.fresh))
      → Rule record { words = ws; homes = hs; views = set s.views id w }
  one_changed s r id v w ws hs h t at words law authors fit others has newest home away = record {
    history = h;
    turn = t;
    at = r.at;
    words = words;
    law = law;
    authors = authors;
    fits = set_each (Fit h t r.at) s.views id w fit others;
    owner = owner_still s r id v w at has;
    newest = newest;
    home = home;
    away = away;
  }

  -- a step that changes neither word nor slot
  unmoved : (s : St) (r : Rule s) (id : ℕ) (v w : V) (ws : List ℕ) → get_elem? s.views id ≡ some v → ws ≡ s.words → w.mine ≡ v.mine → w.turn ≡ v.turn → w.fresh ≡ v.fresh → (v.seen ≡ r.history → w.seen ≡ r.history) → Fit r.history r.turn r.at id w
      → Rule record { words = ws; homes = s.homes; views = set s.views id w }
  unmoved s r id v w ws at same n t f seen fit = one_changed s r id v w ws s.homes r.history r.turn at (same ∙ r.words) r.law r.authors fit (λ j u apart e. r.fits j u e) (same_has v w n) (newest_still s r id v w at seen) r.home (away_still s r id v w at t f)

  -- look
  pub looks_at : (slots id : ℕ) (me : Mine) → Allows Rule slots id me 0 (λ n. n) (looks seat_of lawful (step slots 0 0 0 none) me)
  looks_at slots id me s r count at small =
      let v = me.0 in
      let f = r.fits id v at in
      let h = r.history in
      let found : get_or s.words 0 0 ≡ length h = ap (λ ws. get_or ws 0 0) r.words in
      let w = looked v h (get_or s.words 0 0) in
      let fit : Fit h r.turn r.at id w = renew h r.turn r.turn id r.at v h _ v.turn v.fresh f (prefix_self h) (λ t. ((f.held t).0, refl)) in (
        w,
        keeps,
        tt,
        unmoved s r id v w _ at (ap (λ ws. set ws 0 (get_or ws 0 0)) r.words ∙ sym r.words) refl refl refl (λ _. refl) fit,
        (h, refl, sym found, grown h r.turn id r.at v r.law r.authors f),
      )

  -- the view with the turn is the one that the turn's number leads to
  turn_view : (s : St) (r : Rule s) (id : ℕ) (v : V) → get_elem? s.views id ≡ some v → v.turn ≡ true → (1 ≤ r.turn) × (r.turn ≤ seats) × (r.at r.turn ≡ id) × (s.homes ≡ left_home v.fresh) × (v.seen ≡ r.history)
  turn_view s r id v at t =
      let f = r.fits id v at in
      let among = (f.held t).0 in
      let m = f.mine r.turn among.0 among.1 in
      let a = r.away m.1 in
      let same : a.0 ≡ v = some-injective _ _ (sym a.2 ∙ (ap (get_elem? s.views) m.0 ∙ at)) in
      (m.1, m.2, m.0, a.4 ∙ ap (λ (u : V). left_home u.fresh) same, (f.held t).1)

  -- no other view has the turn
  others_rest : (s : St) (r : Rule s) (id : ℕ) (v : V) → get_elem? s.views id ≡ some v → v.turn ≡ true → (j : ℕ) (u : V) → j ≢ id → get_elem? s.views j ≡ some u → u.turn ≡ true → ⊥
  others_rest s r id v at t j u apart e t' =
      let a = turn_view s r id v at t in
      let b = turn_view s r j u e t' in
      apart (sym b.2 ∙ a.2)

  -- the first view of all, with the turn out and nothing in the slot
  pub opens : (count : ℕ) (xs : List E) → length xs ≡ count → lawful g xs → AllBy seat_of 0 xs → 1 ≤ seats → Rule (opening (count ∷ 1 ∷ []) (None ∷ []) (founder seat_of xs g seats))
  opens count xs long law fresh some_seat = record {
    history = xs;
    turn = 1;
    at = λ _. 0;
    words = ap (λ (n : ℕ). n ∷ 1 ∷ []) (sym long);
    law = law;
    authors = upto_nobody seat_of seats xs fresh;
    fits = first_fits;
    owner = λ k lo hi. (founder seat_of xs g seats, refl, (by seat_of k xs, among_up 1 seats k lo (omega arith)));
    newest = (1, founder seat_of xs g seats, omega arith, some_seat, refl, refl);
    home = λ z. absurd (omega arith);
    away = λ _. (founder seat_of xs g seats, some_seat, refl, refl, refl);
  }
    where
      among_up : (a n k : ℕ) → a ≤ k → k < a + n → Among (k, by seat_of k xs) (up_from seat_of xs a n)
      among_up a zero k lo hi = absurd (omega arith)
      among_up a (suc n) k lo hi = dite (ℕ_discrete k a) (λ e. inl (λ i. (e i, by seat_of (e i) xs))) (λ ne. inr (among_up (suc a) n k (omega arith) (omega arith)))

      up_among : (a n k : ℕ) (es : List E) → Among (k, es) (up_from seat_of xs a n) → (a ≤ k) × (k < a + n) × (by seat_of k xs ≡ es)
      up_among a zero k es h = absurd h
      up_among a (suc n) k es h = ⊎_elim
          (λ (e : (k, es) ≡ (a, by seat_of a xs)). let here_k : k ≡ a = ap (λ q. q.0) e in (omega arith, omega arith, ap (λ (m : ℕ). by seat_of m xs) here_k ∙ sym (ap (λ q. q.1) e)))
          (λ (t : Among (k, es) (up_from seat_of xs (suc a) n)). let b = up_among (suc a) n k es t in let lo = b.0 in let hi = b.1 in (omega arith, omega arith, b.2))
          h

      first_fit : Fit xs 1 (λ _. 0) 0 (founder seat_of xs g seats)
      first_fit = record {
        based = λ _ _. (refl, refl);
        seen = prefix_self xs;
        told = λ ys a. absurd a;
        mine = λ k es a. let b = up_among 1 seats k es a in let lo = b.0 in let hi = b.1 in (refl, lo, omega arith, b.2);
        held = λ _. ((by seat_of 1 xs, among_up 1 seats 1 (omega arith) (omega arith)), refl);
      }

      first_fits : (id : ℕ) (v : V) → get_elem? (founder seat_of xs g seats ∷ []) id ≡ some v → Fit xs 1 (λ _. 0) id v
      first_fits zero v e = subst (Fit xs 1 (λ _. 0) 0) (some-injective _ _ e) first_fit
      first_fits (suc id) v e = absurd (some-ne-none v (sym e))

  -- the first view takes the slot
  pub founds_at : (slots id : ℕ) (me : Mine) → me.0.turn ≡ true → me.0.fresh ≡ true → Allows Rule slots id me 1 (λ n. n) (founds (step slots 1 0 0 none) me)
  founds_at slots id me t fr s r count at small =
      let v = me.0 in
      let f = r.fits id v at in
      let tv = turn_view s r id v at t in
      let w = holding v v.seen in
      let homes : s.homes ≡ some None ∷ [] = tv.3 ∙ ap left_home fr in
      let fit : Fit r.history r.turn r.at id w = renew r.history r.turn r.turn id r.at v v.seen v.looks true false f f.seen (λ _. f.held t) in (
        w,
        takes 0 None,
        ap (λ hs. get_elem? hs 0) homes,
        one_changed s r id v w _ _ r.history r.turn at (ap (λ ws. set ws 1 (get_or ws 1 0)) r.words) r.law r.authors fit (λ j u apart e. r.fits j u e) (λ k h. h) (newest_still s r id v w at (λ e. e))
            (λ z. let lo = tv.0 in absurd (omega arith))
            (λ _. (w, tv.1, subst (λ (n : ℕ). get_elem? (set s.views id w) n ≡ some w) (sym tv.2) (here s.views id v w at), refl, ap (λ hs. set hs 0 none) homes)),
        refl,
      )

  abbrev EnterGoal : St → ℕ → ℕ → Mine → Bool → ℕ → Type 0
  EnterGoal s id number me b n = (w : V) × (a : Act (Option M)) × Valid s.homes me.1 a × Rule (stepped s 1 (either b number n) id me.1 w a)
      × MatchBool b ((x : M) × (◌≡◌ {A = Mine} (w, carried_after me.1 a) (holding me.0 (list x), (0, Some x) ∷ me.1)) × (me.0.basis ≡ Some (basis x)) × Grown seat_of lawful me.0 (list x)) (◌≡◌ {A = Mine} (w, carried_after me.1 a) me)

  -- take the turn
  pub enters_at : (slots id number : ℕ) (me : Mine) → me.0.turn ≡ false → Has number me.0 → Allows Rule slots id me 1 (λ n. either (n == 0) number n) (enters list basis seat_of lawful (step slots 1 0 number none) me)
  enters_at slots id number me idle among s r count at small =
      subst (λ (n : ℕ). EnterGoal s id number me (n == 0) n) (sym (ap (λ ws. get_or ws 1 0) r.words)) (by_case (r.turn == 0) refl)
    where
      free : r.turn ≡ 0 → EnterGoal s id number me true r.turn
      free zero_turn =
          let f = r.fits id me.0 at in
          let h = r.home zero_turn in
          let x = h.0 in
          let w = holding me.0 (list x) in
          let m = f.mine number among.0 among.1 in
          let fit : Fit r.history number r.at id w = renew r.history r.turn number id r.at me.0 (list x) me.0.looks true false f (subst (λ (xs : List E). IsPrefix xs r.history) (sym h.2) (prefix_self r.history)) (λ _. (among, h.2)) in (
            w,
            takes 0 (Some x),
            ap (λ hs. get_elem? hs 0) h.1,
            one_changed s r id me.0 w _ _ r.history number at (ap (λ ws. set ws 1 number) r.words) r.law r.authors fit
                (λ j u apart e. carry r.history r.history r.turn number j r.at r.at u (r.fits j u e) (prefix_self r.history) (λ k es a. (((r.fits j u e).mine k es a).0, refl)) (λ t. let tv = turn_view s r j u e t in let lo = tv.0 in absurd (omega arith)))
                (λ k h. h)
                (newest_still s r id me.0 w at (λ _. h.2))
                (λ z. let lo = m.1 in absurd (omega arith))
                (λ _. (w, m.2, subst (λ (n : ℕ). get_elem? (set s.views id w) n ≡ some w) (sym m.0) (here s.views id me.0 w at), refl, ap (λ hs. set hs 0 none) h.1)),
            (x, refl, (f.based number among).0 ∙ ap Some (sym h.3), subst (Grown seat_of lawful me.0) (sym h.2) (grown r.history r.turn id r.at me.0 r.law r.authors f)),
          )

      busy : EnterGoal s id number me false r.turn
      busy = (
        me.0,
        keeps,
        tt,
        unmoved s r id me.0 me.0 _ at (ap (λ ws. set ws 1 r.turn) r.words ∙ sym r.words) refl refl refl (λ e. e) (r.fits id me.0 at),
        refl,
      )

      by_case : (b : Bool) → (r.turn == 0) ≡ b → EnterGoal s id number me b r.turn
      by_case true is = free (grind (arith, nat_tests))
      by_case false is = busy

  -- publish the count
  pub publishes_at : (slots id count : ℕ) (v : V) (x : M) → v.turn ≡ true → v.fresh ≡ false → length (list x) ≡ count → lawful (basis x) (list x) → v.basis ≡ Some (basis x) → IsPrefix v.seen (list x)
      → ((k : ℕ) → 1 ≤ k → (Has k v → ⊥) → by seat_of k (list x) ≡ by seat_of k v.seen)
      → ((n : ℕ) → ((k : ℕ) → Has k v → k ≤ n) → AllUpTo seat_of n v.seen → AllUpTo seat_of n (list x))
      → Allows Rule slots id (v, (0, Some x) ∷ []) 0 (λ _. count) (λ _. publishes list seat_of (step slots 0 count 0 none) (v, (0, Some x) ∷ []) count)
  publishes_at slots id count v x t fr long law same more others within s r cnt at small =
      let f = r.fits id v at in
      let tv = turn_view s r id v at t in
      let xs = list x in
      let w = renewed seat_of v xs in
      let more' : IsPrefix r.history xs = subst (λ (h : List E). IsPrefix h xs) tv.4 more in
      let has_turn = f.based r.turn (f.held t).0 in
      let on : basis x ≡ g = cc (same, has_turn.0) in
      let authors : AllUpTo seat_of seats xs = within seats (λ k h. (f.mine k h.0 h.1).2) (subst (AllUpTo seat_of seats) (sym tv.4) r.authors) in
      let fit : Fit xs r.turn r.at id w = record {
        based = λ k h. let m = again_from xs v.mine k h.0 h.1 in f.based k (m.0, m.1);
        seen = prefix_self xs;
        told = λ ys a. prefix_trans _ _ _ (f.told ys a) more';
        mine = λ k es a. let o = again_from xs v.mine k es a in let m = f.mine k o.0 o.1 in (m.0, m.1, m.2, o.2);
        held = λ _. let h = (f.held t).0 in ((by seat_of r.turn xs, again_has xs v.mine r.turn h.0 h.1), refl);
      } in (
        w,
        keeps,
        tt,
        one_changed s r id v w _ s.homes xs r.turn at (ap (λ ws. set ws 0 count) r.words ∙ ap (λ (n : ℕ). n ∷ r.turn ∷ []) (sym long)) (subst (λ (b : G). lawful b xs) on law) authors fit
            (λ j u apart e. let q = r.fits j u e in carry r.history xs r.turn r.turn j r.at r.at u q more' (λ k es a. let m = q.mine k es a in (m.0, others k m.1 (λ own. apart (sym m.0 ∙ (f.mine k own.0 own.1).0)) ∙ ap (by seat_of k) tv.4)) (λ t'. absurd (others_rest s r id v at t j u apart e t')))
            (λ k h. (by seat_of k xs, again_has xs v.mine k h.0 h.1))
            (r.turn, w, tv.0, tv.1, subst (λ (n : ℕ). get_elem? (set s.views id w) n ≡ some w) (sym tv.2) (here s.views id v w at), refl)
            (λ z. let lo = tv.0 in absurd (omega arith))
            (λ _. (w, tv.1, subst (λ (n : ℕ). get_elem? (set s.views id w) n ≡ some w) (sym tv.2) (here s.views id v w at), refl, tv.3 ∙ ap left_home fr)),
        (refl, subst (λ (n : ℕ). AllUpTo seat_of n xs) (sym has_turn.1) authors),
      )

  -- release the turn
  pub leaves_at : (slots id : ℕ) (v : V) (x : M) → v.turn ≡ true → v.fresh ≡ false → list x ≡ v.seen → v.basis ≡ Some (basis x)
      → Allows Rule slots id (v, (0, Some x) ∷ []) 1 (λ _. 0) (λ _. leaves (step slots 1 0 0 none) (v, (0, Some x) ∷ []) 0)
  leaves_at slots id v x t fr is same s r cnt at small =
      let f = r.fits id v at in
      let tv = turn_view s r id v at t in
      let w = resting v in
      let on : basis x ≡ g = cc (same, (f.based r.turn (f.held t).0).0) in
      let fit : Fit r.history 0 r.at id w = renew r.history r.turn 0 id r.at v v.seen v.looks false false f f.seen (λ t'. off t') in (
        w,
        gives,
        tt,
        one_changed s r id v w _ _ r.history 0 at (ap (λ ws. set ws 1 0) r.words) r.law r.authors fit
            (λ j u apart e. let q = r.fits j u e in carry r.history r.history r.turn 0 j r.at r.at u q (prefix_self r.history) (λ k es a. ((q.mine k es a).0, refl)) (λ t'. absurd (others_rest s r id v at t j u apart e t')))
            (λ k h. h)
            (newest_still s r id v w at (λ e. e))
            (λ _. (x, ap (λ hs. set hs 0 (some (Some x))) (tv.3 ∙ ap left_home fr), is ∙ tv.4, on))
            (λ lo. absurd (omega arith)),
        refl,
      )

  -- the same at a seat that is known by an equation
  pub publishes_as : (slots id count : ℕ) (me : Mine) (v : V) (x : M) → me ≡ (v, (0, Some x) ∷ []) → v.turn ≡ true → v.fresh ≡ false → length (list x) ≡ count → lawful (basis x) (list x) → v.basis ≡ Some (basis x) → IsPrefix v.seen (list x)
      → ((k : ℕ) → 1 ≤ k → (Has k v → ⊥) → by seat_of k (list x) ≡ by seat_of k v.seen)
      → ((n : ℕ) → ((k : ℕ) → Has k v → k ≤ n) → AllUpTo seat_of n v.seen → AllUpTo seat_of n (list x))
      → Allows Rule slots id me 0 (λ _. count) (λ _. publishes list seat_of (step slots 0 count 0 none) me count)
  publishes_as slots id count me v x is t fr long law same more others within =
      subst (λ (m : Mine). Allows Rule slots id m 0 (λ _. count) (λ _. publishes list seat_of (step slots 0 count 0 none) m count)) (sym is) (publishes_at slots id count v x t fr long law same more others within)

  pub leaves_as : (slots id : ℕ) (me : Mine) (v : V) (x : M) → me ≡ (v, (0, Some x) ∷ []) → v.turn ≡ true → v.fresh ≡ false → list x ≡ v.seen → v.basis ≡ Some (basis x)
      → Allows Rule slots id me 1 (λ _. 0) (λ _. leaves (step slots 1 0 0 none) me 0)
  leaves_as slots id me v x is t fr same on =
      subst (λ (m : Mine). Allows Rule slots id m 1 (λ _. 0) (λ _. leaves (step slots 1 0 0 none) m 0)) (sym is) (leaves_at slots id v x t fr same on)

  -- a new view comes after the others
  at_new : (l : List V) (a b : V) (j : ℕ) → get_elem? (l ++ a ∷ []) j ≡ some b → (get_elem? l j ≡ some b) ⊎ ((j ≡ length l) × (a ≡ b))
  at_new [] a b zero e = inr (refl, some-injective _ _ e)
  at_new [] a b (suc j) e = absurd (some-ne-none b (sym e))
  at_new (x ∷ l) a b zero e = inl e
  at_new (x ∷ l) a b (suc j) e = ⊎_elim (λ (t : get_elem? l j ≡ some b). inl t) (λ (t : (j ≡ length l) × (a ≡ b)). inr (ap suc t.0, t.1)) (at_new l a b j e)

  -- split, a note
  pub copies_at : (id : ℕ) (v : V) → Splits Rule id v v (note_of v)
  copies_at id v s r at = subst (λ (views : List V). Rule record { words = s.words; homes = s.homes; views = views ++ note_of v ∷ [] }) (sym (set_again s.views id v at)) record {
    history = r.history;
    turn = r.turn;
    at = r.at;
    words = r.words;
    law = r.law;
    authors = r.authors;
    fits = λ j u e. ⊎_elim
        (λ (t : get_elem? s.views j ≡ some u). r.fits j u t)
        (λ (t : (j ≡ length s.views) × (note_of v ≡ u)). subst (Fit r.history r.turn r.at j) t.1 (note_fit j))
        (at_new s.views (note_of v) u j e);
    owner = λ k lo hi. let o = r.owner k lo hi in (o.0, at_longer s.views (note_of v ∷ []) (r.at k) o.0 o.1, o.2);
    newest = let o = r.newest in (o.0, o.1, o.2, o.3, at_longer s.views (note_of v ∷ []) (r.at o.0) o.1 o.4, o.5);
    home = r.home;
    away = λ lo. let a = r.away lo in (a.0, a.1, at_longer s.views (note_of v ∷ []) (r.at r.turn) a.0 a.2, a.3, a.4);
  }
    where
      note_fit : (j : ℕ) → Fit r.history r.turn r.at j (note_of v)
      note_fit j = numberless r.history r.turn j r.at v.seen v.basis v.seats (r.fits id v at).seen

  -- join
  pub merges_at : (id : ℕ) (v : V) (other : ℕ) (w : V) (own : ℕ) → Has own v → v.turn ≡ false → w.turn ≡ false → Joins Rule id v other w (merged v w) spent
  merges_at id v other w own some_own idle idle' s r at apart there_set = record {
    history = r.history;
    turn = r.turn;
    at = at';
    words = r.words;
    law = r.law;
    authors = r.authors;
    fits = set_each (Fit r.history r.turn at') (set s.views id both) other spent spent_fit (λ j u ne e. set_each (λ i x. i ≢ other → Fit r.history r.turn at' i x) s.views id both (λ _. both_fit) (λ i x ne' e' ne_other. stays i x ne_other (r.fits i x e')) j u e ne);
    owner = λ k lo hi. moved (Has k) (left_has k) (right_has k) k (r.owner k lo hi);
    newest = let o = r.newest in
        let n = moved (λ (u : V). u.seen ≡ r.history) (λ whole. longer_first v.seen w.seen r.history whole q.seen) (λ whole. longer_second v.seen w.seen r.history f.seen whole) o.0 (o.1, o.4, o.5) in
        (o.0, n.0, o.2, o.3, n.1, n.2);
    home = r.home;
    away = λ lo. let a = r.away lo in
        let ne_id : r.at r.turn ≢ id = λ e. true≢false (sym a.3 ∙ (ap (λ (u : V). u.turn) (some-injective a.0 v (sym a.2 ∙ (ap (get_elem? s.views) e ∙ at))) ∙ idle)) in
        let ne_other : r.at r.turn ≢ other = λ e. true≢false (sym a.3 ∙ (ap (λ (u : V). u.turn) (some-injective a.0 w (sym a.2 ∙ (ap (get_elem? s.views) e ∙ there))) ∙ idle')) in
        (a.0, a.1, subst (λ (n : ℕ). get_elem? (set (set s.views id both) other spent) n ≡ some a.0) (sym (same_at r.turn ne_other)) (set_else (set s.views id both) other (r.at r.turn) spent ne_other ∙ (set_else s.views id (r.at r.turn) both ne_id ∙ a.2)), a.3, a.4);
  }
    where
      both : V
      both = merged v w

      there : get_elem? s.views other ≡ some w
      there = sym (set_else s.views id other (merged v w) apart) ∙ there_set

      at' : ℕ → ℕ
      at' k = either (eqb (r.at k) other) id (r.at k)

      same_at : (k : ℕ) → r.at k ≢ other → at' k ≡ r.at k
      same_at k ne = ap (λ (b : Bool). either b id (r.at k)) (ne_eqb (r.at k) other ne)

      moved_at : (k : ℕ) → r.at k ≡ other → at' k ≡ id
      moved_at k e = ap (λ (b : Bool). either b id (r.at k)) (eq-eqb (r.at k) other e)

      f : Fit r.history r.turn r.at id v
      f = r.fits id v at

      q : Fit r.history r.turn r.at other w
      q = r.fits other w there

      spent_fit : Fit r.history r.turn at' other spent
      spent_fit = numberless r.history r.turn other at' [] None 0 (r.history, refl)

      stays : (i : ℕ) (x : V) → i ≢ other → Fit r.history r.turn r.at i x → Fit r.history r.turn at' i x
      stays i x ne o = carry r.history r.history r.turn r.turn i r.at at' x o (prefix_self r.history) (λ k es a. let m = o.mine k es a in (same_at k (λ e. ne (sym m.0 ∙ e)) ∙ m.0, refl)) o.held

      split_among : (x : ℕ × List E) (xs ys : List (ℕ × List E)) → Among x (xs ++ ys) → Among x xs ⊎ Among x ys
      split_among x [] ys a = inr a
      split_among x (y ∷ xs) ys a = ⊎_elim (λ (e : x ≡ y). inl (inl e)) (λ (t : Among x (xs ++ ys)). ⊎_elim (λ (z : Among x xs). inl (inr z)) (λ (z : Among x ys). inr z) (split_among x xs ys t)) a

      left_among : (x : ℕ × List E) (xs ys : List (ℕ × List E)) → Among x xs → Among x (xs ++ ys)
      left_among x [] ys a = absurd a
      left_among x (y ∷ xs) ys a = ⊎_elim (λ (e : x ≡ y). inl e) (λ (t : Among x xs). inr (left_among x xs ys t)) a

      right_among : (x : ℕ × List E) (xs ys : List (ℕ × List E)) → Among x ys → Among x (xs ++ ys)
      right_among x [] ys a = a
      right_among x (y ∷ xs) ys a = inr (right_among x xs ys a)

      both_fit : Fit r.history r.turn at' id both
      both_fit = record {
        based = λ k a. f.based own some_own;
        seen = longer_prefix v.seen w.seen r.history f.seen q.seen;
        told = λ xs a. ⊎_elim
            (λ (e : xs ≡ v.seen). subst (λ l. IsPrefix l r.history) (sym e) f.seen)
            (λ (t : Among xs (w.seen ∷ v.told)). ⊎_elim (λ (e : xs ≡ w.seen). subst (λ l. IsPrefix l r.history) (sym e) q.seen) (λ (l : Among xs v.told). f.told xs l) t)
            a;
        mine = λ k es a. ⊎_elim
            (λ (l : Among (k, es) v.mine). let m = f.mine k es l in (same_at k (λ e. apart (sym e ∙ m.0)) ∙ m.0, m.1, m.2, m.3))
            (λ (l : Among (k, es) w.mine). let m = q.mine k es l in (moved_at k m.0, m.1, m.2, m.3))
            (split_among (k, es) v.mine w.mine a);
        held = λ t. off (sym idle ∙ t);
      }

      at_both : get_elem? (set (set s.views id both) other spent) id ≡ some both
      at_both = set_else (set s.views id both) other id spent (λ e. apart (sym e)) ∙ here s.views id v both at

      right_has : (k : ℕ) → Has k w → Has k both
      right_has k h = (h.0, right_among (k, h.0) v.mine w.mine h.1)

      left_has : (k : ℕ) → Has k v → Has k both
      left_has k h = (h.0, left_among (k, h.0) v.mine w.mine h.1)

      -- a fact of the view at the place of a number stays, where the joined view has it of both
      moved : (Q : V → Type 0) → (Q v → Q both) → (Q w → Q both) → (k : ℕ) → (u : V) × (get_elem? s.views (r.at k) ≡ some u) × Q u → (u : V) × (get_elem? (set (set s.views id both) other spent) (at' k) ≡ some u) × Q u
      moved Q from_left from_right k o = dite (ℕ_discrete (r.at k) other)
          (λ e. (both, subst (λ (n : ℕ). get_elem? (set (set s.views id both) other spent) n ≡ some both) (sym (moved_at k e)) at_both, from_right (subst Q (some-injective o.0 w (sym o.1 ∙ (ap (get_elem? s.views) e ∙ there))) o.2)))
          (λ ne. dite (ℕ_discrete (r.at k) id)
          (λ e. (both, subst (λ (n : ℕ). get_elem? (set (set s.views id both) other spent) n ≡ some both) (sym (same_at k ne ∙ e)) at_both, from_left (subst Q (some-injective o.0 v (sym o.1 ∙ (ap (get_elem? s.views) e ∙ at))) o.2)))
          (λ ne'. (o.0, subst (λ (n : ℕ). get_elem? (set (set s.views id both) other spent) n ≡ some o.0) (sym (same_at k ne)) (set_else (set s.views id both) other (r.at k) spent ne ∙ (set_else s.views id (r.at k) both ne' ∙ o.1)), o.2)))

  -- split, a seat
  pub deals_at : (id : ℕ) (v : V) (n : ℕ) (es : List E) (ps : List (ℕ × List E)) → v.mine ≡ (n, es) ∷ ps → ((es' : List E) → Among (n, es') ps → ⊥) → v.turn ≡ false → Splits Rule id v (left_of v) (part_of v)
  deals_at id v n es ps is distinct idle s r at = record {
    history = r.history;
    turn = r.turn;
    at = at';
    words = r.words;
    law = r.law;
    authors = r.authors;
    fits = λ j u e. ⊎_elim
        (λ (t : get_elem? (set s.views id left) j ≡ some u). set_each (Fit r.history r.turn at') s.views id left left_fit (λ i x ne e'. stays i x ne (r.fits i x e')) j u t)
        (λ (t : (j ≡ length (set s.views id left)) × (part ≡ u)). subst (λ (y : ℕ × V). Fit r.history r.turn at' y.0 y.1) (λ i. (sym (t.0 ∙ long) i, t.1 i)) part_fit)
        (at_new (set s.views id left) part u j e);
    owner = λ k lo hi. parted (Has k) k (λ e h. part_has k e) (λ ne h. left_has k ne h) (r.owner k lo hi);
    newest = let o = r.newest in
        let n = parted (λ (u : V). u.seen ≡ r.history) o.0 (λ e whole. whole) (λ ne whole. whole) (o.1, o.4, o.5) in
        (o.0, n.0, o.2, o.3, n.1, n.2);
    home = r.home;
    away = λ lo. let a = r.away lo in
        let ne_id : r.at r.turn ≢ id = λ e. true≢false (sym a.3 ∙ (ap (λ (u : V). u.turn) (some-injective a.0 v (sym a.2 ∙ (ap (get_elem? s.views) e ∙ at))) ∙ idle)) in
        (a.0, a.1, subst (λ (m : ℕ). get_elem? (set s.views id left ++ part ∷ []) m ≡ some a.0) (sym (same_at r.turn (λ e. ne_id (ap r.at e ∙ first.0)))) (at_longer (set s.views id left) (part ∷ []) (r.at r.turn) a.0 (set_else s.views id (r.at r.turn) left ne_id ∙ a.2)), a.3, a.4);
  }
    where
      left : V
      left = left_of v

      part : V
      part = part_of v

      long : length (set s.views id (left_of v)) ≡ length s.views
      long = length-set s.views id (left_of v)

      f : Fit r.history r.turn r.at id v
      f = r.fits id v at

      first : (r.at n ≡ id) × (1 ≤ n) × (n ≤ seats) × (by seat_of n r.history ≡ es)
      first = f.mine n es (subst (Among (n, es)) (sym is) (inl refl))

      at' : ℕ → ℕ
      at' k = either (eqb k n) (length s.views) (r.at k)

      same_at : (k : ℕ) → k ≢ n → at' k ≡ r.at k
      same_at k ne = ap (λ (b : Bool). either b (length s.views) (r.at k)) (ne_eqb k n ne)

      moved_at : (k : ℕ) → k ≡ n → at' k ≡ length s.views
      moved_at k e = ap (λ (b : Bool). either b (length s.views) (r.at k)) (eq-eqb k n e)

      in_rest : (k : ℕ) (xs : List E) → Among (k, xs) (rest_of v.mine) → Among (k, xs) ps
      in_rest k xs a = subst (λ (l : List (ℕ × List E)). Among {A = ℕ × List E} (k, xs) (rest_of l)) is a

      in_all : (k : ℕ) (xs : List E) → Among (k, xs) ps → Among (k, xs) v.mine
      in_all k xs a = subst (Among (k, xs)) (sym is) (inr a)

      not_n : (k : ℕ) (xs : List E) → Among (k, xs) ps → k ≢ n
      not_n k xs a e = distinct xs (subst (λ (m : ℕ). Among (m, xs) ps) e a)

      left_fit : Fit r.history r.turn at' id left
      left_fit = numbered r.history r.turn id id r.at at' v left f refl refl f.seen f.told idle (λ k xs a. let p = in_rest k xs a in (in_all k xs p, same_at k (not_n k xs p) ∙ (f.mine k xs (in_all k xs p)).0))

      stays : (i : ℕ) (x : V) → i ≢ id → Fit r.history r.turn r.at i x → Fit r.history r.turn at' i x
      stays i x ne o = carry r.history r.history r.turn r.turn i r.at at' x o (prefix_self r.history) (λ k xs a. let m = o.mine k xs a in (same_at k (λ e. ne (sym m.0 ∙ (ap r.at e ∙ first.0))) ∙ m.0, refl)) o.held

      in_first : (k : ℕ) (xs : List E) → Among (k, xs) (first_of v.mine) → Among {A = ℕ × List E} (k, xs) ((n, es) ∷ [])
      in_first k xs a = subst (λ (l : List (ℕ × List E)). Among {A = ℕ × List E} (k, xs) (first_of l)) is a

      part_fit : Fit r.history r.turn at' (length s.views) part
      part_fit = numbered r.history r.turn id (length s.views) r.at at' v part f refl refl f.seen (λ xs a. absurd a) refl (λ k xs a. ⊎_elim
          (λ (e : (k, xs) ≡ (n, es)). (subst (Among (k, xs)) (sym is) (inl e), moved_at k (ap (λ q. q.0) e)))
          (λ z. absurd z)
          (in_first k xs a))

      later : (k : ℕ) (xs : List E) → k ≢ n → Among {A = ℕ × List E} (k, xs) ((n, es) ∷ ps) → Among (k, xs) ps
      later k xs ne a = ⊎_elim (λ (e : (k, xs) ≡ (n, es)). absurd (ne (ap (λ q. q.0) e))) (λ (z : Among (k, xs) ps). z) a

      part_has : (k : ℕ) → k ≡ n → Has k part
      part_has k e = (es, subst (λ (l : List (ℕ × List E)). Among {A = ℕ × List E} (k, es) (first_of l)) (sym is) (inl (λ i. (e i, es))))

      left_has : (k : ℕ) → k ≢ n → Has k v → Has k left
      left_has k ne h = (h.0, subst (λ (l : List (ℕ × List E)). Among {A = ℕ × List E} (k, h.0) (rest_of l)) (sym is) (later k h.0 ne (subst (Among (k, h.0)) is h.1)))

      -- a fact of the view at the place of a number stays, where the part has it of the first number, and what is left of another one
      parted : (Q : V → Type 0) (k : ℕ) → (k ≡ n → Q v → Q part) → (k ≢ n → Q v → Q left) → (u : V) × (get_elem? s.views (r.at k) ≡ some u) × Q u → (u : V) × (get_elem? (set s.views id left ++ part ∷ []) (at' k) ≡ some u) × Q u
      parted Q k to_part to_left o = dite (ℕ_discrete k n)
          (λ e. let same : o.0 ≡ v = some-injective o.0 v (sym o.1 ∙ (ap (get_elem? s.views) (ap r.at e ∙ first.0) ∙ at)) in
          (part, subst (λ (m : ℕ). get_elem? (set s.views id left ++ part ∷ []) m ≡ some part) (sym (moved_at k e)) (at_last (set s.views id left) part (length s.views) long), to_part e (subst Q same o.2)))
          (λ ne. dite (ℕ_discrete (r.at k) id)
          (λ e. let same : o.0 ≡ v = some-injective o.0 v (sym o.1 ∙ (ap (get_elem? s.views) e ∙ at)) in
          (left, subst (λ (m : ℕ). get_elem? (set s.views id left ++ part ∷ []) m ≡ some left) (sym (same_at k ne ∙ e)) (at_longer (set s.views id left) (part ∷ []) id left (here s.views id v left at)), to_left ne (subst Q same o.2)))
          (λ ne'. (o.0, subst (λ (m : ℕ). get_elem? (set s.views id left ++ part ∷ []) m ≡ some o.0) (sym (same_at k ne)) (at_longer (set s.views id left) (part ∷ []) (r.at k) o.0 (set_else s.views id (r.at k) left ne' ∙ o.1)), o.2)))

  -- what a value at the end has
  pub record Whole (v : V) (x : M) : Type 0 where
    pub seen : list x ≡ v.seen
    pub told : (xs : List E) → Among xs v.told → IsPrefix xs (list x)
    pub mine : (k : ℕ) (es : List E) → Among (k, es) v.mine → by seat_of k (list x) ≡ es
    pub based : basis x ≡ g
    pub law : lawful g (list x)
    pub authors : AllUpTo seat_of seats (list x)

  abbrev Closed : V → List (Option M) → Type 0
  Closed v xs = (x : M) × (get_elem? xs 0 ≡ some (Some x)) × Whole v x

  -- the end, with a seat that has every number
  pub closes : (id : ℕ) (v : V) (ws : List ℕ) (xs : List (Option M)) → Final (Seen Rule id v) ws xs → v.turn ≡ false → ((k : ℕ) → 1 ≤ k → k ≤ seats → Has k v)
      → Closed v xs
  closes id v ws xs end idle all = closed (dite (ℕ_discrete r.turn 0) (λ e. e) (λ ne. absurd (busy ne)))
    where
      s : St
      s = end.0

      r : Rule s
      r = end.1.0

      at : get_elem? s.views id ≡ some v
      at = end.1.1

      f : Fit r.history r.turn r.at id v
      f = r.fits id v at

      busy : r.turn ≢ 0 → ⊥
      busy ne =
          let a = r.away (omega arith) in
          let h = all r.turn (omega arith) a.1 in
          let m = f.mine r.turn h.0 h.1 in
          true≢false (sym a.3 ∙ (ap (λ (u : V). u.turn) (some-injective a.0 v (sym a.2 ∙ (ap (get_elem? s.views) m.0 ∙ at))) ∙ idle))

      closed : r.turn ≡ 0 → Closed v xs
      closed free =
          let h = r.home free in
          let o = r.newest in
          let all_of = all o.0 o.2 o.3 in
          let m = f.mine o.0 all_of.0 all_of.1 in
          let same : o.1 ≡ v = some-injective _ _ (sym o.4 ∙ (ap (get_elem? s.views) m.0 ∙ at)) in
          let whole : list h.0 ≡ v.seen = h.2 ∙ (sym o.5 ∙ ap (λ (u : V). u.seen) same) in (
            h.0,
            end.4 0 (Some h.0) (ap (λ hs. get_elem? hs 0) h.1),
            record {
              seen = whole;
              told = λ ys a. subst (IsPrefix ys) (sym h.2) (f.told ys a);
              mine = λ k es a. ap (by seat_of k) h.2 ∙ (f.mine k es a).3;
              based = h.3;
              law = subst (lawful g) (sym h.2) r.law;
              authors = subst (AllUpTo seat_of seats) (sym h.2) r.authors;
            },
          )

-- what a step that found the turn free tells
pub entered : (P Q : Type 0) (n : ℕ) → MatchBool (n == 0) P Q → n ≡ 0 → P
entered P Q n told is = subst (λ (m : ℕ). MatchBool (m == 0) P Q) is told

pub lawful_on : {E G : Type 0} (seat_of : E → ℕ) (lawful : G → List E → Type 0) (v : View E G) (xs : List E) (k : ℕ) (b : G) → Grown seat_of lawful v xs → Has k v → v.basis ≡ Some b → lawful b xs
lawful_on seat_of lawful v xs k b h among on = let l = h.law k among in let same : l.0 ≡ b = cc (l.1, on) in subst (λ x. lawful x xs) same l.2

-- the entries of a turn are of no other seat
pub by_turn : {E : Type 0} (seat_of : E → ℕ) (number : ℕ) (mine : List (ℕ × List E)) (es xs ys new : List E) → mine ≡ (number, es) ∷ [] → ys ≡ xs ++ new → AllBy seat_of number new
    → (k : ℕ) → 1 ≤ k → ((old : List E) × Among (k, old) mine → ⊥) → by seat_of k ys ≡ by seat_of k xs
by_turn seat_of number mine es xs ys new is more all k some_seat no_own =
    ap (by seat_of k) more ∙ by_grown seat_of k number xs new some_seat (λ e. no_own (es, subst (Among (k, es)) (sym is) (inl (λ i. (e i, es))))) all

-- and each is of nobody or of a seat
pub within_turn : {E : Type 0} (seat_of : E → ℕ) (number : ℕ) (mine : List (ℕ × List E)) (es xs ys new : List E) → mine ≡ (number, es) ∷ [] → ys ≡ xs ++ new → AllBy seat_of number new
    → (n : ℕ) → ((k : ℕ) → ((old : List E) × Among (k, old) mine) → k ≤ n) → AllUpTo seat_of n xs → AllUpTo seat_of n ys
within_turn seat_of number mine es xs ys new is more all n few known =
    subst (AllUpTo seat_of n) (sym more) (upto_grown seat_of n number xs new (few number (es, subst (Among (number, es)) (sym is) (inl refl))) all known)

-- a seat has its number
pub has_own : {E : Type 0} (number : ℕ) (mine : List (ℕ × List E)) (es : List E) → mine ≡ (number, es) ∷ [] → (old : List E) × Among (number, old) mine
has_own number mine es is = (es, subst (Among (number, es)) (sym is) (inl refl))

-- what a look tells of the seat's own entries
pub own_grown : {E G : Type 0} (seat_of : E → ℕ) (lawful : G → List E → Type 0) (v : View E G) (xs es : List E) (number : ℕ) → Grown seat_of lawful v xs → v.mine ≡ (number, es) ∷ [] → by seat_of number xs ≡ es
own_grown seat_of lawful v xs es number h is = h.mine number es (subst (Among (number, es)) (sym is) (inl refl))

pub own_again : {E G : Type 0} (seat_of : E → ℕ) (lawful : G → List E → Type 0) (v : View E G) (xs es : List E) (number : ℕ) → Grown seat_of lawful v xs → v.mine ≡ (number, es) ∷ [] → v.mine ≡ (number, by seat_of number xs) ∷ []
own_again seat_of lawful v xs es number h is = is ∙ ap (λ (l : List _). (number, l) ∷ []) (sym (own_grown seat_of lawful v xs es number h is))

abbrev value_in : {X : Type 0} → X → List (ℕ × Option X) → X
value_in d [] = d
value_in d ((k, None) ∷ l) = d
value_in d ((k, Some x) ∷ l) = x

-- the value that the exchange took is the one that the seat knew of
pub same_slot : {X : Type 0} (l t t' : List (ℕ × Option X)) (r : Option X) (x y : X) → l ≡ (0, Some x) ∷ t → l ≡ (0, r) ∷ t' → r ≡ Some y → x ≡ y
same_slot l t t' r x y p q is = ap (value_in x) (sym p ∙ (q ∙ ap (λ o. (0, o) ∷ t') is))

pub same_some : {X : Type 0} (o : Option X) (x y : X) → o ≡ Some x → o ≡ Some y → x ≡ y
same_some o x y p q = cc (p, q)
