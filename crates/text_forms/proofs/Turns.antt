-- What one character does, for any grammar.
use Rattle.std.specs.Prelude.{encode_utf8}
use Rattle.std.specs.Char.{len_utf8, to_ascii_uppercase}
use Rattle.std.proofs.Common.{◌≡◌, ◌≢◌, ◌++◌, ◌+◌, ℕ, Bool, true, false, List, [], ◌∷◌, inl, refl, sym, ap, subst, ◌∙◌, arith, Option, Some, None, Result, Ok, Err, IfOk}
use Rattle.std.proofs.lemmas.Str.{encode_ascii}
use Rattle.std.proofs.lemmas.Str.Ascii.{uppercase_ascii}
use Rattle.text_forms.specs.Forms.{BeginAlike, Finishes}
use Rattle.text_forms.specs.Names as names
use Rattle.text_forms.specs.NameFacts.{name_more, name_more_up, name_close, name_close_up, closing_more, closing_more_up, closing_ends, closing_ends_text, name_open}
use Rattle.text_forms.proofs.Alike.{same_ascii}
use Rattle.query_meaning.specs.declared.token.Class.TheVariants as class_is
use Rattle.query_meaning.specs.declared.token.Token.{Token}
use Rattle.query_meaning.specs.declared.token.Token.TheVariants.{Word, Sign, Name}
use Rattle.text_forms.specs.declared.mode.Mode.{Mode}
use Rattle.text_forms.specs.declared.mode.Mode.TheVariants.{Between, InWord, InName, Closing}
use Rattle.query_meaning.specs.Tokens.{class, Placed, At, Spells, ended, white}
use Rattle.text_forms.specs.Grammars.{Took, WantsWord, WantsName}
use Rattle.text_forms.specs.Modes.{WithinWord, Ended, Named, Continues, Stepped, FinishesAt}
use Rattle.text_forms.specs.Closings.{letter_ascii, sign_ascii}
use Rattle.text_forms.proofs.Steps.{alike_class, alike_low, white_down, sign_down, sign_up, letter_down, letter_up, letter_not, open_down, open_up, other_not, none_left, word_more, word_more_up, word_ends, word_ends_up}

-- a letter's capital letter is one byte
pub capital_byte : (c capital : ℕ) (old new : List ℕ) → class c ≡ class_is.Letter → capital ≡ to_ascii_uppercase c → new ≡ old ++ encode_utf8 capital → new ≡ old ++ to_ascii_uppercase c ∷ []
capital_byte c capital old new s e f = f ∙ ap (λ x. old ++ encode_utf8 x) e ∙ ap (λ x. old ++ x) (encode_ascii (to_ascii_uppercase c) (uppercase_ascii c (letter_ascii c s)))

pub first_capital : (c capital : ℕ) (old new : List ℕ) → class c ≡ class_is.Letter → capital ≡ to_ascii_uppercase c → old ≡ [] → new ≡ old ++ encode_utf8 capital → new ≡ to_ascii_uppercase c ∷ []
first_capital c capital old new s e n f = capital_byte c capital old new s e f ∙ ap (λ x. x ++ to_ascii_uppercase c ∷ []) n

pub on_ok : {A E : Type 0} (P P' : A → Type 0) (r : Result A E) → ((x : A) → P x → P' x) → IfOk r P → IfOk r P'
on_ok P P' (Ok x) f h = f x h
on_ok P P' (Err e) f h = tt

open_not : class 93 ≡ class_is.Other
unfolding class
open_not = refl

module _ {S Q : Type 0} (rest : S → List Placed → Q → Type 0) where
  pub at_mode : (R : List Placed → Q → Type 0) (m known : Mode) (at c : ℕ) (next : Option (S × Mode)) → m ≡ known → Stepped rest R known at c next → Stepped rest R m at c next
  at_mode R m known at c next e h = subst (λ x. Stepped rest R x at c next) (sym e) h

  -- between tokens
  pub white_turn : (s : S) (w : Bool) (at c : ℕ) → class c ≡ class_is.White → Stepped rest (rest s) (Between w) at c (Some (s, Between false))
  white_turn s w at c e = λ cs q. (
    (λ l. record { tokens = l.tokens; spelled = white_down e l.spelled; rest = l.rest }),
    (λ l. record { tokens = l.tokens; spelled = white e l.spelled; rest = l.rest }),
  )

  pub letter_turn : (s : S) (w : Bool) (at c : ℕ) (u : List ℕ) → class c ≡ class_is.Letter → w ≡ false → u ≡ to_ascii_uppercase c ∷ [] → Stepped rest (rest s) (Between w) at c (Some (s, InWord at u))
  letter_turn s w at c u e f h = λ cs q. (
    (λ l. record { tokens = l.tokens; spelled = subst (λ x. WithinWord at x (at + len_utf8 c) l.tokens cs) (sym h) (letter_down e (subst (λ b. Spells b at l.tokens (c ∷ cs)) f l.spelled)); rest = l.rest }),
    (λ l. record { tokens = l.tokens; spelled = subst (λ b. Spells b at l.tokens (c ∷ cs)) (sym f) (letter_up e (subst (λ x. WithinWord at x (at + len_utf8 c) l.tokens cs) h l.spelled)); rest = l.rest }),
  )

  pub open_turn : (s : S) (w : Bool) (at c : ℕ) (u : List ℕ) → class c ≡ class_is.Open → u ≡ [] → Stepped rest (rest s) (Between w) at c (Some (s, InName at u))
  open_turn s w at c u e h = λ cs q. (
    (λ l. record { tokens = l.tokens; spelled = subst (λ x. names.InName x (Named at l.tokens) (at + len_utf8 c) cs) (sym h) (open_down e l.spelled); rest = l.rest }),
    (λ l. record { tokens = l.tokens; spelled = open_up e (subst (λ x. names.InName x (Named at l.tokens) (at + len_utf8 c) cs) h l.spelled); rest = l.rest }),
  )

  pub sign_turn : (R : List Placed → Q → Type 0) (next : S) (w : Bool) (at c : ℕ) (o : Option S) → class c ≡ class_is.Sign → o ≡ Some next → Took rest R (At at (Sign c)) o → Stepped rest R (Between w) at c (Some (next, Between false))
  sign_turn R next w at c o e f t = λ cs q. (
    (λ l. let k = sign_down e l.spelled in record { tokens = k.0; spelled = k.2; rest = (took k.0 q).0 (subst (λ ts. R ts q) k.1 l.rest) }),
    (λ l. record { tokens = At at (Sign c) ∷ l.tokens; spelled = sign_up e (l.tokens, refl, l.spelled); rest = (took l.tokens q).1 l.rest }),
  )
    where
      took : Took rest R (At at (Sign c)) (Some next)
      took = subst (λ x. Took rest R (At at (Sign c)) x) f t

  module _ (R : List Placed → Q → Type 0) where
    -- no word begins so
    word_unwanted : {from at : ℕ} {u cs : List ℕ} (ts : List Placed) (q : Q) → WantsWord R u false → WithinWord from u at ts cs → R ts q → ⊥
    word_unwanted {from} ts q h r x = h _ from r.others q (subst (λ us. R us q) r.first x)

    pub letter_refused : (w : Bool) (at c : ℕ) → class c ≡ class_is.Letter → w ≡ true → Stepped rest R (Between w) at c None
    letter_refused w at c e f = λ d cs q a l. letter_not (alike_class a ∙ e) (subst (λ b. Spells b at l.tokens (d ∷ cs)) f l.spelled)

    pub letter_unwanted : (w : Bool) (at c : ℕ) (u : List ℕ) → class c ≡ class_is.Letter → w ≡ false → u ≡ to_ascii_uppercase c ∷ [] → WantsWord R u false → Stepped rest R (Between w) at c None
    letter_unwanted w at c u e f h k = λ d cs q a l.
        let same = alike_low a (letter_ascii c e) in
        let s : Spells false at l.tokens (c ∷ cs) = subst (λ x. Spells false at l.tokens (x ∷ cs)) same (subst (λ b. Spells b at l.tokens (d ∷ cs)) f l.spelled) in
        word_unwanted l.tokens q k (subst (λ x. WithinWord at x (at + len_utf8 c) l.tokens cs) (sym h) (letter_down e s)) l.rest

    pub open_unwanted : (w : Bool) (at c : ℕ) → class c ≡ class_is.Open → WantsName R false → Stepped rest R (Between w) at c None
    open_unwanted w at c e h = λ d cs q a l.
        let r = open_down (alike_class a ∙ e) l.spelled in
        h _ at r.goes.0 q (subst (λ us. R us q) r.goes.1 l.rest)

    pub sign_refused : (w : Bool) (at c : ℕ) (o : Option S) → class c ≡ class_is.Sign → o ≡ None → Took rest R (At at (Sign c)) o → Stepped rest R (Between w) at c None
    sign_refused w at c o e f t = λ d cs q a l.
        let same = alike_low a (sign_ascii c e) in
        let k = sign_down e (subst (λ x. Spells w at l.tokens (x ∷ cs)) same l.spelled) in
        took k.0 q (subst (λ ts. R ts q) k.1 l.rest)
      where
        took : Took rest R (At at (Sign c)) None
        took = subst (λ x. Took rest R (At at (Sign c)) x) f t

    pub other_refused : (w : Bool) (at c : ℕ) → class c ≡ class_is.Other → Stepped rest R (Between w) at c None
    other_refused w at c e = λ d cs q a l. other_not (alike_class a ∙ e) l.spelled

  -- in a word
  pub word_turn : (s : S) (m : Mode) (from at c : ℕ) (u v : List ℕ) → m ≡ InWord from u → class c ≡ class_is.Letter → v ≡ u ++ to_ascii_uppercase c ∷ [] → Stepped rest (rest s) m at c (Some (s, InWord from v))
  word_turn s m from at c u v is e h = at_mode (rest s) m (InWord from u) at c (Some (s, InWord from v)) is (λ cs q. (
    (λ l. record { tokens = l.tokens; spelled = subst (λ x. WithinWord from x (at + len_utf8 c) l.tokens cs) (sym h) (word_more e l.spelled); rest = l.rest }),
    (λ l. record { tokens = l.tokens; spelled = word_more_up e (subst (λ x. WithinWord from x (at + len_utf8 c) l.tokens cs) h l.spelled); rest = l.rest }),
  ))

  pub word_refused : (R : List Placed → Q → Type 0) (m : Mode) (from at c : ℕ) (u v : List ℕ) → m ≡ InWord from u → class c ≡ class_is.Letter → v ≡ u ++ to_ascii_uppercase c ∷ [] → WantsWord R v false → Stepped rest R m at c None
  word_refused R m from at c u v is e h k = at_mode R m (InWord from u) at c None is (λ d cs q a l.
      let same = alike_low a (letter_ascii c e) in
      let s : WithinWord from u at l.tokens (c ∷ cs) = subst (λ x. WithinWord from u at l.tokens (x ∷ cs)) same l.spelled in
      word_unwanted R l.tokens q k (subst (λ x. WithinWord from x (at + len_utf8 c) l.tokens cs) (sym h) (word_more e s)) l.rest)

  -- a token ended before this character
  module _ (R : List Placed → Q → Type 0) (w : Bool) (m : Mode) (from at c : ℕ) (k : Token) (down : (d : ℕ) (cs : List ℕ) (ts : List Placed) → BeginAlike c d → Continues m at ts (d ∷ cs) → Ended w from k at ts (d ∷ cs)) (up : (cs : List ℕ) (ts : List Placed) → Ended w from k at ts (c ∷ cs) → Continues m at ts (c ∷ cs)) where
    ended_turn : (next : S) (o : Option (S × Mode)) → Took rest R (At from k) (Some next) → Stepped rest (rest next) (Between w) at c o → Stepped rest R m at c o
    ended_turn next (Some other) t h = λ cs q. (
      (λ l. (let x = down c cs l.tokens (inl refl) l.spelled in (h cs q).0 (record { tokens = x.0; spelled = x.2; rest = (t x.0 q).0 (subst (λ ts. R ts q) x.1 l.rest) }))),
      (λ l. (let y = (h cs q).1 l in record { tokens = At from k ∷ y.tokens; spelled = up cs (At from k ∷ y.tokens) (y.tokens, refl, y.spelled); rest = (t y.tokens q).1 y.rest })),
    )
    ended_turn next None t h = λ d cs q a l.
        let x = down d cs l.tokens a l.spelled in
        h d cs q a (record { tokens = x.0; spelled = x.2; rest = (t x.0 q).0 (subst (λ ts. R ts q) x.1 l.rest) })

    ended_refused : Took rest R (At from k) None → Stepped rest R m at c None
    ended_refused t = λ d cs q a l. (let x = down d cs l.tokens a l.spelled in t x.0 q (subst (λ ts. R ts q) x.1 l.rest))

  word_over : {c d : ℕ} → class c ≢ class_is.Letter → BeginAlike c d → class d ≢ class_is.Letter
  word_over n a e = n (sym (alike_class a) ∙ e)

  module _ (R : List Placed → Q → Type 0) (m : Mode) (from at c : ℕ) (u : List ℕ) (o : Option S) where
    pub word_ended : {E : Type 0} (next : S) (r : Result (Option (S × Mode)) E) → m ≡ InWord from u → class c ≢ class_is.Letter → o ≡ Some next → Took rest R (At from (Word u)) o → IfOk r (λ x. Stepped rest (rest next) (Between true) at c x) → IfOk r (λ x. Stepped rest R m at c x)
    word_ended next r is n f t h = on_ok _ _ r (λ x y. at_mode R m (InWord from u) at c x is (ended_turn R true (InWord from u) from at c (Word u) (λ d cs ts a z. word_ends (word_over n a) z) (λ cs ts z. word_ends_up z) next x (subst (λ y. Took rest R (At from (Word u)) y) f t) y)) h

    pub word_ended_refused : m ≡ InWord from u → class c ≢ class_is.Letter → o ≡ None → Took rest R (At from (Word u)) o → Stepped rest R m at c None
    word_ended_refused is n f t = at_mode R m (InWord from u) at c None is (ended_refused R true (InWord from u) from at c (Word u) (λ d cs ts a z. word_ends (word_over n a) z) (λ cs ts z. word_ends_up z) (subst (λ y. Took rest R (At from (Word u)) y) f t))

  -- in a name
  pub name_turn : (s : S) (m : Mode) (from at c : ℕ) (u v : List ℕ) → m ≡ InName from u → c ≢ 93 → v ≡ u ++ encode_utf8 c → Stepped rest (rest s) m at c (Some (s, InName from v))
  name_turn s m from at c u v is n h = at_mode (rest s) m (InName from u) at c (Some (s, InName from v)) is (λ cs q. (
    (λ l. record { tokens = l.tokens; spelled = subst (λ x. names.InName x (Named from l.tokens) (at + len_utf8 c) cs) (sym h) (name_more (Named from l.tokens) n l.spelled); rest = l.rest }),
    (λ l. record { tokens = l.tokens; spelled = name_more_up (Named from l.tokens) n (subst (λ x. names.InName x (Named from l.tokens) (at + len_utf8 c) cs) h l.spelled); rest = l.rest }),
  ))

  pub close_turn : (s : S) (m : Mode) (from at c : ℕ) (u : List ℕ) → m ≡ InName from u → c ≡ 93 → Stepped rest (rest s) m at c (Some (s, Closing from u))
  close_turn s m from at c u is e = at_mode (rest s) m (InName from u) at c (Some (s, Closing from u)) is (subst (λ x. Stepped rest (rest s) (InName from u) at x (Some (s, Closing from u))) (sym e) (λ cs q. (
    (λ l. record { tokens = l.tokens; spelled = name_close (Named from l.tokens) l.spelled; rest = l.rest }),
    (λ l. record { tokens = l.tokens; spelled = name_close_up (Named from l.tokens) l.spelled; rest = l.rest }),
  )))

  never_close : {at : ℕ} {cs u : List ℕ} (from : ℕ) (ts : List Placed) → ¬ Named from ts at u (93 ∷ cs)
  never_close from ts h = other_not open_not h.2

  pub reopen_turn : (s : S) (m : Mode) (from at c : ℕ) (u v : List ℕ) → m ≡ Closing from u → c ≡ 93 → v ≡ u ++ encode_utf8 c → Stepped rest (rest s) m at c (Some (s, InName from v))
  reopen_turn s m from at c u v is e h = at_mode (rest s) m (Closing from u) at c (Some (s, InName from v)) is (subst (λ x. Stepped rest (rest s) (Closing from u) at x (Some (s, InName from v))) (sym e) (λ cs q. (
    (λ l. record { tokens = l.tokens; spelled = subst (λ x. names.InName x (Named from l.tokens) (at + 1) cs) (sym k) (closing_more (Named from l.tokens) (never_close from l.tokens) l.spelled); rest = l.rest }),
    (λ l. record { tokens = l.tokens; spelled = closing_more_up (Named from l.tokens) (subst (λ x. names.InName x (Named from l.tokens) (at + 1) cs) k l.spelled); rest = l.rest }),
  )))
    where
      k : v ≡ u ++ encode_utf8 93
      k = h ∙ ap (λ x. u ++ encode_utf8 x) e

  name_over : {c d : ℕ} → c ≢ 93 → BeginAlike c d → d ≢ 93
  name_over n a e = n (same_ascii _ _ 93 (omega arith) a e)

  module _ (R : List Placed → Q → Type 0) (m : Mode) (from at c : ℕ) (u : List ℕ) (o : Option S) where
    pub name_ended : {E : Type 0} (next : S) (r : Result (Option (S × Mode)) E) → m ≡ Closing from u → c ≢ 93 → u ≢ [] → o ≡ Some next → Took rest R (At from (Name u)) o → IfOk r (λ x. Stepped rest (rest next) (Between false) at c x) → IfOk r (λ x. Stepped rest R m at c x)
    name_ended next r is n some f t h = on_ok _ _ r (λ x y. at_mode R m (Closing from u) at c x is (ended_turn R false (Closing from u) from at c (Name u) (λ d cs ts a z. (closing_ends (Named from ts) (name_over n a) z).1) (λ cs ts z. inl (some, z)) next x (subst (λ y. Took rest R (At from (Name u)) y) f t) y)) h

    pub name_ended_refused : m ≡ Closing from u → c ≢ 93 → u ≢ [] → o ≡ None → Took rest R (At from (Name u)) o → Stepped rest R m at c None
    name_ended_refused is n some f t = at_mode R m (Closing from u) at c None is (ended_refused R false (Closing from u) from at c (Name u) (λ d cs ts a z. (closing_ends (Named from ts) (name_over n a) z).1) (λ cs ts z. inl (some, z)) (subst (λ y. Took rest R (At from (Name u)) y) f t))

  -- the end of the text
  module _ (R : List Placed → Q → Type 0) where
    finishes_between : (w : Bool) (o : Option Q) → Finishes R o → FinishesAt R (Between w) o
    finishes_between w (Some q) h = λ at. (record { tokens = []; spelled = ended; rest = h.0 }, λ p l. h.1 p (subst (λ ts. R ts p) (none_left l.spelled) l.rest))
    finishes_between w None h = λ at p l. h p (subst (λ ts. R ts p) (none_left l.spelled) l.rest)

    ends_as : (m known : Mode) (o : Option Q) → m ≡ known → FinishesAt R known o → FinishesAt R m o
    ends_as m known o e h = subst (λ x. FinishesAt R x o) (sym e) h

    pub between_ends : {T E : Type 0} (meaning : T → Option Q) (m : Mode) (w : Bool) (r : Result T E) → m ≡ Between w → IfOk r (λ x. Finishes R (meaning x)) → IfOk r (λ x. FinishesAt R m (meaning x))
    between_ends meaning m w r e h = on_ok _ _ r (λ x y. ends_as m (Between w) (meaning x) e (finishes_between w (meaning x) y)) h

    module _ (w : Bool) (m : Mode) (from : ℕ) (k : Token) (down : (at : ℕ) (ts : List Placed) → Continues m at ts [] → Ended w from k at ts []) (up : (at : ℕ) (ts : List Placed) → Ended w from k at ts [] → Continues m at ts []) where
      ended_end : (next : S) (o : Option Q) → Took rest R (At from k) (Some next) → Finishes (rest next) o → FinishesAt R m o
      ended_end next (Some q) t h = λ at. (
        record { tokens = At from k ∷ []; spelled = up at (At from k ∷ []) ([], refl, ended); rest = (t [] q).1 h.0 },
        λ p l. (let x = down at l.tokens l.spelled in h.1 p (subst (λ ts. rest next ts p) (none_left x.2) ((t x.0 p).0 (subst (λ ts. R ts p) x.1 l.rest)))),
      )
      ended_end next None t h = λ at p l. (let x = down at l.tokens l.spelled in h p (subst (λ ts. rest next ts p) (none_left x.2) ((t x.0 p).0 (subst (λ ts. R ts p) x.1 l.rest))))

      ended_never : Took rest R (At from k) None → FinishesAt R m None
      ended_never t = λ at p l. (let x = down at l.tokens l.spelled in t x.0 p (subst (λ ts. R ts p) x.1 l.rest))

    module _ (m : Mode) (from : ℕ) (u : List ℕ) (o : Option S) where
      pub word_ends_text : {T E : Type 0} (meaning : T → Option Q) (next : S) (r : Result T E) → m ≡ InWord from u → o ≡ Some next → Took rest R (At from (Word u)) o → IfOk r (λ x. Finishes (rest next) (meaning x)) → IfOk r (λ x. FinishesAt R m (meaning x))
      word_ends_text meaning next r e f t h = on_ok _ _ r (λ x y. ends_as m (InWord from u) (meaning x) e (ended_end true (InWord from u) from (Word u) (λ at ts z. word_ends tt z) (λ at ts z. word_ends_up z) next (meaning x) (subst (λ y. Took rest R (At from (Word u)) y) f t) y)) h

      pub word_never : m ≡ InWord from u → o ≡ None → Took rest R (At from (Word u)) o → FinishesAt R m None
      word_never e f t = ends_as m (InWord from u) None e (ended_never true (InWord from u) from (Word u) (λ at ts z. word_ends tt z) (λ at ts z. word_ends_up z) (subst (λ y. Took rest R (At from (Word u)) y) f t))

      pub name_ends_text : {T E : Type 0} (meaning : T → Option Q) (next : S) (r : Result T E) → m ≡ Closing from u → u ≢ [] → o ≡ Some next → Took rest R (At from (Name u)) o → IfOk r (λ x. Finishes (rest next) (meaning x)) → IfOk r (λ x. FinishesAt R m (meaning x))
      name_ends_text meaning next r e some f t h = on_ok _ _ r (λ x y. ends_as m (Closing from u) (meaning x) e (ended_end false (Closing from u) from (Name u) (λ at ts z. (closing_ends_text (Named from ts) z).1) (λ at ts z. inl (some, z)) next (meaning x) (subst (λ y. Took rest R (At from (Name u)) y) f t) y)) h

    pub name_never : (m : Mode) (from : ℕ) (u : List ℕ) → m ≡ InName from u → FinishesAt R m None
    name_never m from u e = ends_as m (InName from u) None e (λ at q l. name_open (Named from l.tokens) l.spelled)
