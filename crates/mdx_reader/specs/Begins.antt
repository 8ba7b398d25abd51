-- With which token what may come begins.
use Rattle.std.proofs.Common.{◌≡◌, ◌≢◌, ◌⊎◌, ◌<◌, ℕ, zero, suc, List, [], ◌∷◌, inl, inr, sym, arith}
use Rattle.query_meaning.specs.declared.token.Token.{Token}
use Rattle.query_meaning.specs.declared.token.Token.TheVariants.{Word, Sign, Name}
use Rattle.query_meaning.specs.Tokens.{Placed, At}
use Rattle.query_meaning.specs.Next.{Tokens}
use Rattle.query_meaning.specs.declared.keyword.Keyword.TheVariants as keyword
use Rattle.mdx_reader.specs.declared.place.Which.{Which}
use Rattle.mdx_reader.specs.declared.place.Frame.{Frame}
use Rattle.mdx_reader.specs.declared.place.Frame.TheVariants as frame
use Rattle.query_meaning.specs.Keywords.{keyword_text}
use Rattle.query_meaning.specs.Tree.{Set, Braces, Cross, Tuple, Picked, none, more}
use Rattle.query_meaning.specs.Grammar.{IsSet}
use Rattle.mdx_reader.specs.Places.{Fill, After}
use Rattle.text_forms.specs.Kinds.{same_word, same_sign, sign_no_word, sign_no_name, word_no_name}

pub data BeginsSet (left : ℕ) (k : Token) : Type 0 where
  brace : k ≡ Sign 123 → BeginsSet left k
  paren : k ≡ Sign 40 → BeginsSet left k
  cross : 0 < left → k ≡ Word (keyword_text keyword.Crossjoin) → BeginsSet left k
  name : (n : List ℕ) → k ≡ Name n → BeginsSet left k

pub set_begins : (left : ℕ) (set : Set) (Then : Tokens) (at : ℕ) (k : Token) (ts : List Placed) → IsSet left set Then (At at k ∷ ts) → BeginsSet left k
set_begins zero (Picked place [] picks) Then at k ts h = absurd h
set_begins (suc left) (Picked place [] picks) Then at k ts h = absurd h
set_begins zero (Picked place (n ∷ path) picks) Then at k ts h = name n h.1
set_begins (suc left) (Picked place (n ∷ path) picks) Then at k ts h = name n h.1
set_begins zero (Tuple place paths) Then at k ts h = paren h.1
set_begins (suc left) (Tuple place paths) Then at k ts h = paren h.1
set_begins zero (Braces place sets) Then at k ts h = brace h.1
set_begins (suc left) (Braces place sets) Then at k ts h = brace h.1
set_begins zero (Cross place first second) Then at k ts h = absurd h
set_begins (suc left) (Cross place first second) Then at k ts h = cross (omega arith) h.1

-- no set begins so
pub no_set : (left : ℕ) (k : Token) → k ≢ Sign 123 → k ≢ Sign 40 → (0 < left → k ≢ Word (keyword_text keyword.Crossjoin)) → ((n : List ℕ) → k ≢ Name n) → ¬ BeginsSet left k
no_set left k a b c d (brace e) = a e
no_set left k a b c d (paren e) = b e
no_set left k a b c d (cross lt e) = c lt e
no_set left k a b c d (name n e) = d n e

-- a sign that begins no set
pub no_set_sign : (left c : ℕ) → c ≢ 123 → c ≢ 40 → ¬ BeginsSet left (Sign c)
no_set_sign left c a b = no_set left (Sign c) (λ e. a (same_sign _ _ e)) (λ e. b (same_sign _ _ e)) (λ lt. sign_no_word _ _) (λ n. sign_no_name _ _)

-- a word that begins no set
pub no_set_word : (left : ℕ) (u : List ℕ) → (0 < left → u ≢ keyword_text keyword.Crossjoin) → ¬ BeginsSet left (Word u)
no_set_word left u n = no_set left (Word u) (λ e. sign_no_word _ _ (sym e)) (λ e. sign_no_word _ _ (sym e)) (λ lt e. n lt (same_word _ _ e)) (λ m. word_no_name _ _)

-- what may stand after a set
abbrev pub Follows : List Frame → Token → Type 0
Follows [] k = k ≡ Word (keyword_text keyword.On)
Follows (frame.Braces at left front ∷ around) k = (k ≡ Sign 44) ⊎ (k ≡ Sign 125)
Follows (frame.First at left ∷ around) k = k ≡ Sign 44
Follows (frame.Second at first ∷ around) k = k ≡ Sign 41

pub after_begins : (w : Which) (around : List Frame) (fill : Fill w around) (at : ℕ) (k : Token) (ts : List Placed) → After w around fill (At at k ∷ ts) → Follows around k
after_begins w [] fill at k ts h = h.0
after_begins w (frame.Braces place left front ∷ around) (none, fill) at k ts h = inr h.0
after_begins w (frame.Braces place left front ∷ around) (more set sets, fill) at k ts h = inl h.0
after_begins w (frame.First place left ∷ around) fill at k ts h = h.0
after_begins w (frame.Second place first ∷ around) fill at k ts h = h.0

-- no dot stands after a set
pub no_dot : (around : List Frame) → ¬ Follows around (Sign 46)
no_dot [] h = sign_no_word _ _ h
no_dot (frame.Braces place left front ∷ around) (inl e) = absurd (let n = same_sign _ _ e in omega arith)
no_dot (frame.Braces place left front ∷ around) (inr e) = absurd (let n = same_sign _ _ e in omega arith)
no_dot (frame.First place left ∷ around) e = absurd (let n = same_sign _ _ e in omega arith)
no_dot (frame.Second place first ∷ around) e = absurd (let n = same_sign _ _ e in omega arith)
