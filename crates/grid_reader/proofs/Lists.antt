-- Lists that are read item by item, and lists in pairs.
use Rattle.std.proofs.Common.{Bor, ◌≡◌, ◌∙◌, ◌+◌, ◌<◌, ◌≤◌, ◌++◌, ℕ, suc, List, [], ◌∷◌, Option, Some, None, All, map, length, get_or, drop, sym, ap, refl, subst, append_assoc}
use Rattle.std.proofs.lemmas.List.{append-nil, drop_more, drop_all}
use Rattle.std.proofs.lemmas.List.Elements.{All-nil, All-cons, All-head, All-tail}
use Rattle.query_meaning.specs.GridForm.{Pairwise}
use Rattle.grid_reader.specs.Reading.{ReadsAs}

-- the items before the rest are read, as these
pub record AreRead {A B : Type 0} (is : A → B → Type 0) (whole rest : List A) (read : List B) : Type 0 where
  pub extends : (more : List B) → Pairwise is rest more → Pairwise is whole (read ++ more)
  pub begins : (all : List B) → Pairwise is whole all → (more : List B) × (all ≡ read ++ more) × Pairwise is rest more

-- nothing is read yet
pub at_start : {A B : Type 0} (is : A → B → Type 0) (whole : List A) → AreRead is whole whole []
at_start is whole = record { extends = λ more h. h; begins = λ all h. (all, refl, h) }

-- what follows, where the next item is read
next_more : {A B : Type 0} (is : A → B → Type 0) (x : A) (rest : List A) (read : List B) (y : B) → ((z : B) → is x z → y ≡ z) → (all more : List B) → all ≡ read ++ more → Pairwise is (x ∷ rest) more → (after : List B) × (all ≡ (read ++ y ∷ []) ++ after) × Pairwise is rest after
next_more is x rest read y own all [] e h = absurd h
next_more is x rest read y own all (z ∷ zs) e h = (zs, e ∙ ap (λ v. read ++ v ∷ zs) (sym (own z h.0)) ∙ sym (append_assoc read (y ∷ []) zs), h.1)

-- one more item is read
pub at_next : {A B : Type 0} (is : A → B → Type 0) (whole : List A) (x : A) (rest : List A) (read : List B) (y : B) → AreRead is whole (x ∷ rest) read → is x y → ((z : B) → is x z → y ≡ z) → AreRead is whole rest (read ++ y ∷ [])
at_next is whole x rest read y so this own = record {
  extends = λ more h. rw (append_assoc read (y ∷ []) more) (so.extends (y ∷ more) (this, h));
  begins = λ all h. let b = so.begins all h in next_more is x rest read y own all b.0 b.1 b.2;
}

-- nothing follows an item that is none
no_more : {A B : Type 0} (is : A → B → Type 0) (x : A) (rest : List A) → ((y : B) → is x y → ⊥) → (more : List B) → Pairwise is (x ∷ rest) more → ⊥
no_more is x rest never [] h = h
no_more is x rest never (z ∷ zs) h = never z h.0

-- where the next item is none, no list is that of the whole
pub at_none : {A B : Type 0} (is : A → B → Type 0) (whole : List A) (x : A) (rest : List A) (read : List B) → AreRead is whole (x ∷ rest) read → ((y : B) → is x y → ⊥) → (all : List B) → Pairwise is whole all → ⊥
at_none is whole x rest read so never all h = let b = so.begins all h in no_more is x rest never b.0 b.2

-- nothing follows the last
none_left : {A B : Type 0} (is : A → B → Type 0) (read all more : List B) → all ≡ read ++ more → Pairwise is [] more → read ≡ all
none_left is read all [] e h = sym (e ∙ append-nil read)
none_left is read all (z ∷ zs) e h = absurd h

-- all items are read
pub at_end : {A B : Type 0} (is : A → B → Type 0) (whole : List A) (read : List B) → AreRead is whole [] read → ReadsAs (Pairwise is) whole (Some read)
at_end is whole read so all = (
  λ e. let same : read ≡ all = cc in subst (λ t. Pairwise is whole t) (append-nil read ∙ same) (so.extends [] tt),
  λ h. let b = so.begins all h in ap (λ t. Some t) (none_left is read all b.0 b.1 b.2),
)

-- what is nothing is read as none
pub reads_none : {A B : Type 0} (is : A → B → Type 0) (x : A) → ((y : B) → is x y → ⊥) → ReadsAs is x None
reads_none is x never y = (λ e. absurd cc, λ h. absurd (never y h))

-- what is read as none is nothing
pub read_none : {A B : Type 0} (is : A → B → Type 0) (x : A) (r : Option B) → ReadsAs is x r → r ≡ None → (y : B) → is x y → ⊥
read_none is x r own e y h = let some : r ≡ Some y = (own y).1 h in cc

-- what is read is the only one
pub read_one : {A B : Type 0} (is : A → B → Type 0) (x : A) (r : Option B) (y : B) → ReadsAs is x r → r ≡ Some y → (z : B) → is x z → y ≡ z
read_one is x r y own e z h = let some : r ≡ Some z = (own z).1 h in cc

-- what a read past the end of lines would give
abbrev pub past : Bor (List ℕ)
past = record { ref_ptr = (0, 0); now = [] }

-- the bytes of lines
abbrev pub bytes_of : List (Bor (List ℕ)) → List (List ℕ)
bytes_of lines = map (λ line. line.now) lines

-- the turn of a loop over lines
pub turn : {B : Type 0} (is : List ℕ → B → Type 0) (lines : List (Bor (List ℕ))) (i : ℕ) (read : List B) (r : Option B) (y : B) → AreRead is (bytes_of lines) (bytes_of (drop i lines)) read → i < length lines → ReadsAs is (get_or lines i past).now r → r ≡ Some y → AreRead is (bytes_of lines) (bytes_of (drop (i + 1) lines)) (read ++ y ∷ [])
turn is lines i read r y so within own e =
    at_next is (bytes_of lines) (get_or lines i past).now (bytes_of (drop (i + 1) lines)) read y (subst (λ t. AreRead is (bytes_of lines) (bytes_of t) read) (drop_more lines i past within) so) ((own y).0 e) (read_one is (get_or lines i past).now r y own e)

-- its early end
pub stops : {B : Type 0} (is : List ℕ → B → Type 0) (lines : List (Bor (List ℕ))) (i : ℕ) (read : List B) → AreRead is (bytes_of lines) (bytes_of (drop i lines)) read → i < length lines → ((y : B) → is (get_or lines i past).now y → ⊥) → ReadsAs (Pairwise is) (bytes_of lines) None
stops is lines i read so within never =
    reads_none (Pairwise is) (bytes_of lines) (at_none is (bytes_of lines) (get_or lines i past).now (bytes_of (drop (i + 1) lines)) read (subst (λ t. AreRead is (bytes_of lines) (bytes_of t) read) (drop_more lines i past within) so) never)

-- and its end
pub ends : {B : Type 0} (is : List ℕ → B → Type 0) (lines : List (Bor (List ℕ))) (i : ℕ) (read : List B) → AreRead is (bytes_of lines) (bytes_of (drop i lines)) read → length lines ≤ i → ReadsAs (Pairwise is) (bytes_of lines) (Some read)
ends is lines i read so over = at_end is (bytes_of lines) read (subst (λ t. AreRead is (bytes_of lines) (bytes_of t) read) (drop_all i lines over) so)

-- lists in pairs are as long as one another
pub pairs_length : {A B : Type 0} (each : A → B → Type 0) (xs : List A) (ys : List B) → Pairwise each xs ys → length xs ≡ length ys
pairs_length each [] [] h = refl
pairs_length each [] (y ∷ ys) h = absurd h
pairs_length each (x ∷ xs) [] h = absurd h
pairs_length each (x ∷ xs) (y ∷ ys) h = ap suc (pairs_length each xs ys h.1)

-- pairs the other way round, with a fact on each
pub paired : {A B : Type 0} (each : A → B → Type 0) (own : A → Type 0) (xs : List A) (ys : List B) → Pairwise each xs ys → All own xs → Pairwise (λ y x. own x × each x y) ys xs
paired each own [] [] h all = tt
paired each own [] (y ∷ ys) h all = absurd h
paired each own (x ∷ xs) [] h all = absurd h
paired each own (x ∷ xs) (y ∷ ys) h all = ((All-head own x xs all, h.0), paired each own xs ys h.1 (All-tail own x xs all))

-- and back
pub unpaired : {A B : Type 0} (each : A → B → Type 0) (own : A → Type 0) (xs : List A) (ys : List B) → Pairwise (λ y x. own x × each x y) ys xs → Pairwise each xs ys × All own xs
unpaired each own [] [] h = (tt, All-nil own)
unpaired each own [] (y ∷ ys) h = absurd h
unpaired each own (x ∷ xs) [] h = absurd h
unpaired each own (x ∷ xs) (y ∷ ys) h =
    let more = unpaired each own xs ys h.1 in
    ((h.0.1, more.0), All-cons own x xs h.0.0 more.1)

-- a list and what a function gives of it
pub mapped : {A B : Type 0} (f : A → B) (xs : List A) → Pairwise (λ x y. y ≡ f x) xs (map f xs)
mapped f [] = tt
mapped f (x ∷ xs) = (refl, mapped f xs)

-- and back
pub is_mapped : {A B : Type 0} (f : A → B) (xs : List A) (ys : List B) → Pairwise (λ x y. y ≡ f x) xs ys → ys ≡ map f xs
is_mapped f [] [] h = refl
is_mapped f [] (y ∷ ys) h = absurd h
is_mapped f (x ∷ xs) [] h = absurd h
is_mapped f (x ∷ xs) (y ∷ ys) h = ap (λ v. v ∷ ys) h.0 ∙ ap (λ t. f x ∷ t) (is_mapped f xs ys h.1)
