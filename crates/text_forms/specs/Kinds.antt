-- Kinds of tokens apart, and those that closing texts spell.
use Rattle.std.specs.Prelude.{sum, ◌==◌, if◌then◌else◌}
use Rattle.std.proofs.Common.{◌≡◌, ℕ, List, [], ◌∷◌, refl, sym, ap, ◌∙◌, arith}
use Rattle.std.proofs.lemmas.Str.Ascii.{IsAscii-nil, IsAscii-cons}
use Rattle.query_meaning.specs.declared.token.Class.TheVariants as class_is
use Rattle.query_meaning.specs.declared.token.Token.TheVariants.{Word, Sign, Name}
use Rattle.query_meaning.specs.Tokens.{class}
use Rattle.query_meaning.specs.declared.keyword.Keyword.{Keyword}
use Rattle.query_meaning.specs.declared.keyword.Keyword.TheVariants as keyword
use Rattle.query_meaning.specs.Keywords.{keyword_text}
use Rattle.text_forms.specs.Grammars.{IsKind}

-- the keyword whose letters have this sum
abbrev by_sum : ℕ → Keyword
by_sum n =
    if n == 448 then keyword.Select else
    if n == 157 then keyword.On else
    if n == 545 then keyword.Columns else
    if n == 48 then keyword.Zero else
    if n == 331 then keyword.Rows else
    if n == 49 then keyword.One else
    if n == 308 then keyword.From else
    if n == 379 then keyword.Where else
    if n == 235 then keyword.Non else
    if n == 399 then keyword.Empty else
    if n == 698 then keyword.Crossjoin else
    if n == 523 then keyword.Members else
    if n == 585 then keyword.Children else
    if n == 440 then keyword.Member else
    if n == 365 then keyword.Range else
    if n == 613 then keyword.Measures else
    keyword.Union

by_sum_is : (k : Keyword) → by_sum (sum (keyword_text k)) ≡ k
by_sum_is keyword.Select = refl
by_sum_is keyword.On = refl
by_sum_is keyword.Columns = refl
by_sum_is keyword.Zero = refl
by_sum_is keyword.Rows = refl
by_sum_is keyword.One = refl
by_sum_is keyword.From = refl
by_sum_is keyword.Where = refl
by_sum_is keyword.Non = refl
by_sum_is keyword.Empty = refl
by_sum_is keyword.Crossjoin = refl
by_sum_is keyword.Members = refl
by_sum_is keyword.Children = refl
by_sum_is keyword.Member = refl
by_sum_is keyword.Range = refl
by_sum_is keyword.Measures = refl
by_sum_is keyword.Union = refl

pub same_keyword : (j k : Keyword) → keyword_text j ≡ keyword_text k → j ≡ k
same_keyword j k e = sym (by_sum_is j) ∙ ap (λ x. by_sum (sum x)) e ∙ by_sum_is k

pub same_word : (u v : List ℕ) → Word u ≡ Word v → u ≡ v
same_word u v e = cc

pub keywords : (j k : Keyword) → Word (keyword_text j) ≡ Word (keyword_text k) → j ≡ k
keywords j k e = same_keyword j k (same_word _ _ e)

pub same_sign : (c d : ℕ) → Sign c ≡ Sign d → c ≡ d
same_sign c d e = cc

pub sign_no_word : (c : ℕ) (u : List ℕ) → ¬ Sign c ≡ Word u
sign_no_word c u e = cc

pub sign_no_name : (c : ℕ) (u : List ℕ) → ¬ Sign c ≡ Name u
sign_no_name c u e = cc

pub word_no_name : (u v : List ℕ) → ¬ Word u ≡ Name v
word_no_name u v e = cc

pub same_name : (u v : List ℕ) → Name u ≡ Name v → u ≡ v
same_name u v e = cc

-- the signs of grammars
pub signs : (class 40 ≡ class_is.Sign) × (class 41 ≡ class_is.Sign) × (class 44 ≡ class_is.Sign) × (class 46 ≡ class_is.Sign) × (class 123 ≡ class_is.Sign) × (class 125 ≡ class_is.Sign)
unfolding class
signs = (refl, refl, refl, refl, refl, refl)

-- a keyword is a word
pub keyword_letters : (k : Keyword) → IsKind (Word (keyword_text k))
unfolding class
keyword_letters keyword.Select = ((λ e. cc), (refl, (refl, (refl, (refl, (refl, (refl, tt)))))), refl)
keyword_letters keyword.On = ((λ e. cc), (refl, (refl, tt)), refl)
keyword_letters keyword.Columns = ((λ e. cc), (refl, (refl, (refl, (refl, (refl, (refl, (refl, tt))))))), refl)
keyword_letters keyword.Zero = ((λ e. cc), (refl, tt), refl)
keyword_letters keyword.Rows = ((λ e. cc), (refl, (refl, (refl, (refl, tt)))), refl)
keyword_letters keyword.One = ((λ e. cc), (refl, tt), refl)
keyword_letters keyword.From = ((λ e. cc), (refl, (refl, (refl, (refl, tt)))), refl)
keyword_letters keyword.Where = ((λ e. cc), (refl, (refl, (refl, (refl, (refl, tt))))), refl)
keyword_letters keyword.Non = ((λ e. cc), (refl, (refl, (refl, tt))), refl)
keyword_letters keyword.Empty = ((λ e. cc), (refl, (refl, (refl, (refl, (refl, tt))))), refl)
keyword_letters keyword.Crossjoin = ((λ e. cc), (refl, (refl, (refl, (refl, (refl, (refl, (refl, (refl, (refl, tt))))))))), refl)
keyword_letters keyword.Members = ((λ e. cc), (refl, (refl, (refl, (refl, (refl, (refl, (refl, tt))))))), refl)
keyword_letters keyword.Children = ((λ e. cc), (refl, (refl, (refl, (refl, (refl, (refl, (refl, (refl, tt)))))))), refl)
keyword_letters keyword.Member = ((λ e. cc), (refl, (refl, (refl, (refl, (refl, (refl, tt)))))), refl)
keyword_letters keyword.Range = ((λ e. cc), (refl, (refl, (refl, (refl, (refl, tt))))), refl)
keyword_letters keyword.Measures = ((λ e. cc), (refl, (refl, (refl, (refl, (refl, (refl, (refl, (refl, tt)))))))), refl)
keyword_letters keyword.Union = ((λ e. cc), (refl, (refl, (refl, (refl, (refl, tt))))), refl)

-- a name of one character
abbrev pub x : List ℕ
x = 120 ∷ []

pub x_kind : IsKind (Name x)
x_kind = ((λ e. cc), IsAscii-cons 120 [] (omega arith) IsAscii-nil)
