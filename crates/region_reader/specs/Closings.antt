-- Closing tokens: from each place some tokens go on to a whole.
use Rattle.std.proofs.Common.{◌≡◌, ◌++◌, ◌<◌, ℕ, zero, suc, true, List, [], ◌∷◌, refl, arith}
use Rattle.query_meaning.specs.declared.token.Token.{Token}
use Rattle.query_meaning.specs.declared.token.Token.TheVariants.{Word, Sign, Name}
use Rattle.query_meaning.specs.Tokens.{Placed, At}
use Rattle.query_meaning.specs.Next.{Tokens, Next, End}
use Rattle.text_forms.specs.Grammars.{kinds, AreKinds, Completes, IsViable, WantsName}
use Rattle.text_forms.specs.Kinds.{signs, keyword_letters, x, x_kind}
use Rattle.query_meaning.specs.declared.region_text.Joins.{Joins}
use Rattle.query_meaning.specs.declared.region_text.Joins.TheVariants as joins
use Rattle.query_meaning.specs.declared.region_text.RegionText.{RegionText}
use Rattle.query_meaning.specs.declared.keyword.Keyword.{Keyword}
use Rattle.query_meaning.specs.declared.keyword.Keyword.TheVariants as keyword
use Rattle.region_reader.specs.declared.place.Frame.{Frame}
use Rattle.region_reader.specs.declared.place.Opens.{Opens}
use Rattle.region_reader.specs.declared.place.Opens.TheVariants as opens
use Rattle.region_reader.specs.declared.place.PathOf.{PathOf}
use Rattle.region_reader.specs.declared.place.PathOf.TheVariants as path_of
use Rattle.region_reader.specs.declared.place.Place.{Place}
use Rattle.region_reader.specs.declared.place.Place.TheVariants as place
use Rattle.query_meaning.specs.Keywords.{keyword_text}
use Rattle.query_meaning.specs.RegionTree.{RegionTree, Member, Range, Measures, Parts, none, more}
use Rattle.query_meaning.specs.FlushGrammar.{joins_key, IsRegion, AreParts}
use Rattle.region_reader.specs.Words.{BeginsRegion}
use Rattle.region_reader.specs.Places.{Fill, whole, After, Other, region_by, Behind, Opened, rest_of}

-- what these tokens are, wherever they stand
abbrev pub Can : List Token → Tokens → Type 0
Can ks Then = (ts : List Placed) → kinds ts ≡ ks → Then ts

first : (j k : Token) (js ks : List Token) → j ∷ js ≡ k ∷ ks → (j ≡ k) × (js ≡ ks)
first j k js ks e = (cc, cc)

pub can_next : (k : Token) (ks : List Token) (Then : Tokens) → Can ks Then → Can (k ∷ ks) (Next k Then)
can_next k ks Then h [] e = absurd cc
can_next k ks Then h (At at j ∷ ts) e = (let f = first j k (kinds ts) ks e in (f.0, h ts f.1))

can_end : Can [] End
can_end [] e = refl
can_end (At at j ∷ ts) e = absurd cc

-- no more parts come
pub no_fill : (around : List Frame) → Fill around
no_fill [] = tt
no_fill (frame ∷ around) = (none, no_fill around)

abbrev pub close : List Frame → List Token
close [] = []
close (frame ∷ around) = Sign 41 ∷ close around

pub are_closing : (around : List Frame) → AreKinds (close around)
are_closing [] = tt
are_closing (frame ∷ around) = (signs.1, are_closing around)

pub can_close : (around : List Frame) → Can (close around) (After around (no_fill around))
unfolding no_fill
can_close [] = can_end
can_close (frame ∷ around) = can_next (Sign 41) (close around) (After around (no_fill around)) (can_close around)

-- after a path
pub no_other : (of : PathOf) → Other of
no_other path_of.Member = tt
no_other path_of.First = x ∷ []
no_other (path_of.Last first) = tt

abbrev pub close_path : PathOf → List Frame → List Token
close_path path_of.Member around = Sign 41 ∷ close around
close_path path_of.First around = Sign 44 ∷ Name x ∷ Sign 41 ∷ close around
close_path (path_of.Last first) around = Sign 41 ∷ close around

pub are_path : (of : PathOf) (around : List Frame) → AreKinds (close_path of around)
are_path path_of.Member around = (signs.1, are_closing around)
are_path path_of.First around = (signs.2, (x_kind, (signs.1, are_closing around)))
are_path (path_of.Last first) around = (signs.1, are_closing around)

pub can_path : (of : PathOf) (around : List Frame) → Can (close_path of around) (Behind of (no_other of) (After around (no_fill around)))
unfolding no_other
can_path path_of.Member around = can_next (Sign 41) _ _ (can_close around)
can_path path_of.First around = can_next (Sign 44) _ _ (can_next (Name x) _ _ (can_next (Sign 41) _ _ (can_close around)))
can_path (path_of.Last first) around = can_next (Sign 41) _ _ (can_close around)

-- after a keyword
abbrev pub close_opened : Opens → List Frame → List Token
close_opened opens.Member around = Sign 40 ∷ Name x ∷ close_path path_of.Member around
close_opened opens.Range around = Sign 40 ∷ Name x ∷ close_path path_of.First around
close_opened (opens.Parts joined left) around = Sign 40 ∷ Word (keyword_text keyword.Measures) ∷ Sign 41 ∷ close around

pub are_opened : (of : Opens) (around : List Frame) → AreKinds (close_opened of around)
are_opened opens.Member around = (signs.0, (x_kind, are_path path_of.Member around))
are_opened opens.Range around = (signs.0, (x_kind, are_path path_of.First around))
are_opened (opens.Parts joined left) around = (signs.0, (keyword_letters keyword.Measures, (signs.1, are_closing around)))

pub part_of : Opens → RegionTree
part_of opens.Member = Member (x ∷ [])
part_of opens.Range = Range (x ∷ []) (x ∷ [])
part_of (opens.Parts joined left) = Parts joined (more Measures none)

measures_can : (left : ℕ) (ks : List Token) (Then : Tokens) → Can ks Then → Can (Word (keyword_text keyword.Measures) ∷ ks) (IsRegion left Measures Then)
measures_can left ks Then h = can_next (Word (keyword_text keyword.Measures)) ks Then h

pub can_opened : (of : Opens) (around : List Frame) → Can (close_opened of around) (Opened of (part_of of) (After around (no_fill around)))
unfolding part_of
can_opened opens.Member around = can_next (Sign 40) _ _ (can_next (Name x) _ _ (can_next (Sign 41) _ _ (can_close around)))
can_opened opens.Range around = can_next (Sign 40) _ _ (can_next (Name x) _ _ (can_next (Sign 44) _ _ (can_next (Name x) _ _ (can_next (Sign 41) _ _ (can_close around)))))
can_opened (opens.Parts joined left) around = λ ts e. (refl, can_next (Sign 40) (Word (keyword_text keyword.Measures) ∷ Sign 41 ∷ close around) (AreParts left (more Measures none) (Next (Sign 41) (After around (no_fill around)))) (measures_can left _ _ (can_next (Sign 41) (close around) (After around (no_fill around)) (can_close around))) ts e)

-- the flush that such tokens make
abbrev pub flush_of : List ℕ → RegionTree → RegionText
flush_of cube part = record { cube = cube; region = part }

-- parts that may come, and what completes them
parts_go : (cube : List ℕ) (around : List Frame) (left : ℕ) (joined : Joins) → 0 < left → (ks : List Token) × Completes (rest_of (place.ARegion cube around left)) (Word (keyword_text (joins_key joined)) ∷ ks)
unfolding part_of
parts_go cube around zero joined may = absurd (omega (arith, may))
parts_go cube around (suc left) joined may = (close_opened (opens.Parts joined left) around, ((keyword_letters (joins_key joined), are_opened (opens.Parts joined left) around), λ ts e. (flush_of cube (whole around (no_fill around) (part_of (opens.Parts joined left))), record { fill = no_fill around; part = part_of (opens.Parts joined left); same_cube = refl; same = refl; goes = can_next (Word (keyword_text (joins_key joined))) _ _ (can_next (Sign 40) (Word (keyword_text keyword.Measures) ∷ Sign 41 ∷ close around) (AreParts left (more Measures none) (Next (Sign 41) (After around (no_fill around)))) (measures_can left _ _ (can_next (Sign 41) (close around) (After around (no_fill around)) (can_close around)))) ts e })))

-- a keyword that may come, and what completes it
pub region_goes : (cube : List ℕ) (around : List Frame) (left : ℕ) (k : Keyword) → BeginsRegion left k → (ks : List Token) × Completes (rest_of (place.ARegion cube around left)) (Word (keyword_text k) ∷ ks)
unfolding part_of
region_goes cube around left keyword.Member may = (close_opened opens.Member around, ((keyword_letters keyword.Member, are_opened opens.Member around), λ ts e. (flush_of cube (whole around (no_fill around) (part_of opens.Member)), record { fill = no_fill around; part = part_of opens.Member; same_cube = refl; same = refl; goes = can_next (Word (keyword_text keyword.Member)) _ _ (can_opened opens.Member around) ts e })))
region_goes cube around left keyword.Range may = (close_opened opens.Range around, ((keyword_letters keyword.Range, are_opened opens.Range around), λ ts e. (flush_of cube (whole around (no_fill around) (part_of opens.Range)), record { fill = no_fill around; part = part_of opens.Range; same_cube = refl; same = refl; goes = can_next (Word (keyword_text keyword.Range)) _ _ (can_opened opens.Range around) ts e })))
region_goes cube around left keyword.Measures may = (close around, ((keyword_letters keyword.Measures, are_closing around), λ ts e. (flush_of cube (whole around (no_fill around) Measures), record { fill = no_fill around; part = Measures; same_cube = refl; same = refl; goes = measures_can left (close around) (After around (no_fill around)) (can_close around) ts e })))
region_goes cube around left keyword.Crossjoin may = parts_go cube around left joins.Crossjoin may
region_goes cube around left keyword.Union may = parts_go cube around left joins.Union may
region_goes cube around left other may = absurd may

-- from each place some tokens go on to a flush
pub place_closes : (state : Place) → Unit {0} → IsViable (rest_of state)
place_closes place.ACube h = (Name x ∷ Word (keyword_text keyword.Measures) ∷ [], ((x_kind, (keyword_letters keyword.Measures, tt)), λ ts e. (flush_of x Measures, can_next (Name x) (Word (keyword_text keyword.Measures) ∷ []) (IsRegion 15 Measures End) (measures_can 15 [] End can_end) ts e)))
place_closes (place.ARegion cube around left) h = (Word (keyword_text keyword.Measures) ∷ close around, ((keyword_letters keyword.Measures, are_closing around), λ ts e. (flush_of cube (whole around (no_fill around) Measures), record { fill = no_fill around; part = Measures; same_cube = refl; same = refl; goes = measures_can left (close around) (After around (no_fill around)) (can_close around) ts e })))
place_closes (place.Opening cube around of) h = (close_opened of around, (are_opened of around, λ ts e. (flush_of cube (whole around (no_fill around) (part_of of)), record { fill = no_fill around; part = part_of of; same_cube = refl; same = refl; goes = can_opened of around ts e })))
place_closes (place.AName cube around of front) h = (Name x ∷ close_path of around, ((x_kind, are_path of around), λ ts e. (flush_of cube (whole around (no_fill around) (region_by of (no_other of) (front ++ x ∷ []))), record { fill = no_fill around; other = no_other of; names = x ∷ []; same_cube = refl; same = refl; goes = can_next (Name x) (close_path of around) (Behind of (no_other of) (After around (no_fill around))) (can_path of around) ts e })))
place_closes (place.AfterName cube around of front) h = (close_path of around, (are_path of around, λ ts e. (flush_of cube (whole around (no_fill around) (region_by of (no_other of) (front ++ []))), record { fill = no_fill around; other = no_other of; names = []; same_cube = refl; same = refl; goes = can_path of around ts e })))
place_closes (place.AfterRegion cube around part) h = (close around, (are_closing around, λ ts e. (flush_of cube (whole around (no_fill around) part), record { fill = no_fill around; same_cube = refl; same = refl; goes = can_close around ts e })))

-- a name may come
pub cube_wanted : WantsName (rest_of place.ACube) true
cube_wanted name some = (Word (keyword_text keyword.Measures) ∷ [], (keyword_letters keyword.Measures, tt), λ ts e. (flush_of name Measures, can_next (Name name) (Word (keyword_text keyword.Measures) ∷ []) (IsRegion 15 Measures End) (measures_can 15 [] End can_end) ts e))

pub name_wanted : (cube : List ℕ) (around : List Frame) (of : PathOf) (front : List (List ℕ)) → WantsName (rest_of (place.AName cube around of front)) true
name_wanted cube around of front name some = (close_path of around, are_path of around, λ ts e. (flush_of cube (whole around (no_fill around) (region_by of (no_other of) (front ++ name ∷ []))), record { fill = no_fill around; other = no_other of; names = name ∷ []; same_cube = refl; same = refl; goes = can_next (Name name) (close_path of around) (Behind of (no_other of) (After around (no_fill around))) (can_path of around) ts e }))
