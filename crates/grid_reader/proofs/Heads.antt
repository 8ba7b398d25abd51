-- The first lines of grids.
use Rattle.std.proofs.Common.{◌≡◌, ◌∙◌, ◌<◌, ◌^◌, ◌++◌, ◌==◌, ◌||◌, ℕ, Bool, true, false, Bor, Option, Some, Decides, MatchBool, eqb, List, [], ◌∷◌, codes, length, get_or, sym, ap, refl, arith, append_assoc}
use Rattle.std.proofs.lemmas.Grind.{common_steps}
use Rattle.std.specs.Fmt.{decimal}
use Rattle.std.specs.Int.{IsInRange}
use Rattle.std.specs.List.{list_any, join_with_byte}
use Rattle.std.proofs.lemmas.List.{get_or-map, length-map}
use Rattle.std.specs.Cmp.Lexicographic.{pointwise}
use Rattle.std.proofs.lemmas.Bool.Decides.{Decides-eqb}
use Rattle.std.proofs.lemmas.Slice.Eq.{slice_eq-Decides}
use Rattle.std.proofs.lemmas.Fmt.{decimal_is_IsNumeral}
use Rattle.std.proofs.lemmas.List.Folds.{list_any-append}
use Rattle.query_meaning.specs.GridForm.{head_text}
use Rattle.shown_values.proofs.PlainFacts.{absent}
use Rattle.grid_reader.specs.declared.head.Head.{Head}
use Rattle.grid_reader.specs.Lines.{IsHead, parted}
use Rattle.grid_reader.proofs.Joins.{parted_joined}
use Rattle.grid_reader.proofs.Lists.{bytes_of}

-- a digit is no space
digit_no_space : (c : ℕ) → IsInRange 48 57 c → (c == 32) ≡ false
digit_no_space c h = grind (arith, common_steps)

-- and no line feed
digit_no_feed : (c : ℕ) → IsInRange 48 57 c → (c == 10) ≡ false
digit_no_feed c h = grind (arith, common_steps)

-- nor has a number's text one
no_space : (n : ℕ) → n < 2 ^ 64 → list_any (λ b. b == 32) (decimal n) ≡ false
no_space n small = absent (λ b. b == 32) digit_no_space (decimal n) (decimal_is_IsNumeral n small).0.1

-- or a line feed
no_feed : (n : ℕ) → n < 2 ^ 64 → list_any (λ b. b == 10) (decimal n) ≡ false
no_feed n small = absent (λ b. b == 10) digit_no_feed (decimal n) (decimal_is_IsNumeral n small).0.1

-- a first line is joined of four fields
pub head_joined : (p c r : ℕ) → head_text p c r ≡ join_with_byte 32 (codes "GRID" ∷ decimal p ∷ decimal c ∷ decimal r ∷ [])
head_joined p c r = simp append_assoc

-- the fields of a first line
pub head_fields : (line : List ℕ) (head : Head) → IsHead line head → parted 32 line ≡ codes "GRID" ∷ decimal head.position ∷ decimal head.columns ∷ decimal head.rows ∷ []
head_fields line head own =
    ap (parted 32) (own.is ∙ head_joined head.position head.columns head.rows)
    ∙ parted_joined 32 (codes "GRID") (decimal head.position ∷ decimal head.columns ∷ decimal head.rows ∷ []) (refl, (no_space head.position own.last, (no_space head.columns own.columns, (no_space head.rows own.rows, tt))))

-- what a test that decides a fact tells of one that is the same
told : {P Q : Type 0} (b : Bool) → Decides b P → (P → Q) → (Q → P) → MatchBool b Q (¬ Q)
told true own to from = to (own.0 refl)
told false own to from = λ q. let clash : false ≡ true = own.1 (from q) in cc

-- a line is compared with the first line of these numbers
pub head_told : (line again : List ℕ) (head : Head) (b : Bool) → 0 < head.position → head.position < 2 ^ 64 → head.columns < 2 ^ 64 → head.rows < 2 ^ 64 → again ≡ join_with_byte 32 (codes "GRID" ∷ decimal head.position ∷ decimal head.columns ∷ decimal head.rows ∷ []) → b ≡ pointwise eqb again line → MatchBool b (IsHead line head) (¬ IsHead line head)
head_told line again head b first last columns rows written compared =
    told b (slice_eq-Decides Decides-eqb again line b compared)
    (λ same. record { is = sym same ∙ written ∙ sym (head_joined head.position head.columns head.rows); first = first; last = last; columns = columns; rows = rows })
    (λ own. written ∙ sym (head_joined head.position head.columns head.rows) ∙ sym own.is)

-- two texts without a line feed, joined
no_either : (xs ys : List ℕ) → list_any (λ b. b == 10) xs ≡ false → list_any (λ b. b == 10) ys ≡ false → list_any (λ b. b == 10) (xs ++ ys) ≡ false
no_either xs ys x y = list_any-append (λ b. b == 10) xs ys ∙ ap (λ t. t || list_any (λ b. b == 10) ys) x ∙ y

-- a first line has no line feed
pub head_no_feed : (p c r : ℕ) → p < 2 ^ 64 → c < 2 ^ 64 → r < 2 ^ 64 → list_any (λ b. b == 10) (head_text p c r) ≡ false
head_no_feed p c r small columns rows =
    no_either (codes "GRID " ++ decimal p ++ codes " " ++ decimal c ++ codes " ") (decimal r)
    (no_either (codes "GRID " ++ decimal p ++ codes " " ++ decimal c) (codes " ")
    (no_either (codes "GRID " ++ decimal p ++ codes " ") (decimal c) (no_either (codes "GRID " ++ decimal p) (codes " ") (no_either (codes "GRID ") (decimal p) refl (no_feed p small)) refl) (no_feed c columns)) refl) (no_feed r rows)

-- a field by its place
field_at : (fields : List (Bor (List ℕ))) (parts : List (List ℕ)) (i : ℕ) (x : Bor (List ℕ)) → bytes_of fields ≡ parts → i < length fields → x ≡ get_or fields i x → x.now ≡ get_or parts i []
field_at fields parts i x own within read =
    ap (λ t. t.now) read ∙ sym (get_or-map (λ t. t.now) fields i x [] within) ∙ ap (λ t. get_or t i []) own

-- what stands in the fields of a first line
pub record AreHeadFields (fields : List (Bor (List ℕ))) (head : Head) : Type 0 where
  pub four : length fields ≡ 4
  pub position : (x : Bor (List ℕ)) → x ≡ get_or fields 1 x → x.now ≡ decimal head.position
  pub columns : (x : Bor (List ℕ)) → x ≡ get_or fields 2 x → x.now ≡ decimal head.columns
  pub rows : (x : Bor (List ℕ)) → x ≡ get_or fields 3 x → x.now ≡ decimal head.rows

-- as the line is parted
pub head_parts : (fields : List (Bor (List ℕ))) (line : List ℕ) (head : Head) → bytes_of fields ≡ parted 32 line → IsHead line head → AreHeadFields fields head
head_parts fields line head parts own =
    let all : bytes_of fields ≡ codes "GRID" ∷ decimal head.position ∷ decimal head.columns ∷ decimal head.rows ∷ [] = parts ∙ head_fields line head own in
    let four : length fields ≡ 4 = sym (length-map fields (λ t. t.now)) ∙ ap length all in
    record {
      four = four;
      position = λ x read. field_at fields _ 1 x all (omega (arith, four)) read;
      columns = λ x read. field_at fields _ 2 x all (omega (arith, four)) read;
      rows = λ x read. field_at fields _ 3 x all (omega (arith, four)) read;
    }

-- three numbers that are a first line's
pub same_head : (head : Head) (p c r : ℕ) → p ≡ head.position → c ≡ head.columns → r ≡ head.rows → ◌≡◌ {A = Option Head} (Some (record { position = p; columns = c; rows = r })) (Some head)
same_head head p c r position columns rows = rw (position, columns, rows)

-- the same number, where it is read twice
pub same_number : (r : Option ℕ) (m n : ℕ) → r ≡ Some m → r ≡ Some n → m ≡ n
same_number r m n a b = cc
