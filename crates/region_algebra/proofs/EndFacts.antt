-- The members that faults name.
use Rattle.std.proofs.Common.{◌≡◌, ◌⊎◌, inl, inr, ℕ, Bool, true, false, List, [], ◌∷◌, Option, None, Some, Result, Ok, Err, ◌+◌, ◌*◌, sym, subst, length, find, not, nat_le, option_map, if◌then◌else◌}
use Rattle.std.specs.Option.{IfSome, IsSomeAnd}
use Rattle.std.specs.Result.{IfErr}
use Rattle.olap_meaning.specs.declared.cells.Member.{Member}
use Rattle.olap_meaning.specs.declared.regions.Region.{Region}
use Rattle.olap_meaning.specs.declared.regions.RegionDim.{RegionDim}
use Rattle.olap_meaning.specs.declared.tables.Catalog.{Catalog}
use Rattle.olap_meaning.specs.Catalog.{find_cube, member_of}
use Rattle.olap_meaning.specs.MemberOf.{IsMemberOf}
use Rattle.olap_meaning.specs.Results.{refused_as, unless}
use Rattle.query_meaning.specs.declared.TheConstants.{BOX_LIMIT}
use Rattle.query_meaning.specs.declared.region_text.Joins.{Joins}
use Rattle.query_meaning.specs.declared.region_text.Joins.TheVariants as joins
use Rattle.query_meaning.specs.declared.region_text.RegionText.{RegionText}
use Rattle.query_meaning.specs.RegionMeaning.{CommonDimension, Mismatch, NoMember, RangeLevels, RegionRefusal, TooManyBoxes, all_dims, box_counts, common, dim_again, dim_of, first_dims, in_one_level, joined_meant, many_crossed, many_united, members_from, members_region, mismatch, range_meant, region_member, same_dims, too_many_boxes}
use Rattle.region_algebra.specs.declared.fault.RegionFault.{RegionFault}
use Rattle.region_algebra.specs.declared.fault.RegionFault.TheVariants as fault
use Rattle.region_algebra.specs.Faults.{IsFaultOf, NamesMembers, NamesMembersOf}
use Rattle.region_algebra.proofs.OwnFacts.{crossjoin_of, union_of}

-- a refusal is none of levels
abbrev NoLevels : RegionRefusal → Type 0
NoLevels (RangeLevels first last) = ⊥
NoLevels _ = Unit {0}

either_none : {A : Type 0} (reason : Option RegionRefusal) (answer : Result A RegionRefusal) → IfSome reason NoLevels → IfErr answer NoLevels → IfErr (unless reason answer) NoLevels
either_none None answer one other = other
either_none (Some refused) answer one other = one

common_none : (o : Option RegionDim) → IfSome (option_map CommonDimension o) NoLevels
common_none None = tt
common_none (Some one) = tt

mismatch_none : (dims : List RegionDim) (o : Option Region) → IfSome (option_map (λ (part : Region). Mismatch dims part.dims) o) NoLevels
mismatch_none dims None = tt
mismatch_none dims (Some part) = tt

many_none : (n : ℕ) → IfSome (too_many_boxes n) NoLevels
many_none n = by (nat_le n BOX_LIMIT)
  where
    by : (b : Bool) → IfSome (if b then None else Some (TooManyBoxes n BOX_LIMIT)) NoLevels
    by true = tt
    by false = tt

choice_none : (b : Bool) (one other : Option RegionRefusal) → IfSome one NoLevels → IfSome other NoLevels → IfSome (if b then one else other) NoLevels
choice_none true one other is are = is
choice_none false one other is are = are

crossed_none : (product : ℕ) (counts : List ℕ) → IfSome (many_crossed product counts) NoLevels
crossed_none product [] = tt
crossed_none product (count ∷ counts) = choice_none (nat_le (product * count) BOX_LIMIT) (many_crossed (product * count) counts) (too_many_boxes (product * count)) (crossed_none (product * count) counts) (many_none (product * count))

united_none : (sum : ℕ) (counts : List ℕ) → IfSome (many_united sum counts) NoLevels
united_none sum [] = tt
united_none sum (count ∷ counts) = choice_none (nat_le (sum + count) BOX_LIMIT) (many_united (sum + count) counts) (too_many_boxes (sum + count)) (united_none (sum + count) counts) (many_none (sum + count))

-- what joins regions is never refused by levels
joined_none : (how : Joins) (cube : ℕ) (parts : List Region) → IfErr (joined_meant how cube parts) NoLevels
joined_none joins.Crossjoin cube parts =
    either_none (common parts) (unless (many_crossed 1 (box_counts parts)) (Ok (crossjoin_of cube parts))) (common_none (dim_again [] (all_dims parts)))
    (either_none (many_crossed 1 (box_counts parts)) (Ok (crossjoin_of cube parts)) (crossed_none 1 (box_counts parts)) tt)
joined_none joins.Union cube parts =
    either_none (mismatch parts) (unless (many_united 0 (box_counts parts)) (Ok (union_of cube parts))) (mismatch_none (first_dims parts) (find (λ (part : Region). not (same_dims (first_dims parts) part.dims)) parts))
    (either_none (many_united 0 (box_counts parts)) (Ok (union_of cube parts)) (united_none 0 (box_counts parts)) tt)

member_none : (r : Result Member (List ℕ)) → IfErr (refused_as NoMember r) NoLevels
member_none (Ok m) = tt
member_none (Err name) = tt

module _ (catalog : Catalog) (cube : ℕ) where
  -- a fault of what is never refused by levels
  names_none : {A : Type 0} (f : RegionFault) (outcome : Result A RegionRefusal) → IfErr outcome NoLevels → IsFaultOf f outcome → NamesMembers catalog cube f
  names_none (fault.RangeLevels first second) outcome none (inl short) = absurd (cc short)
  names_none (fault.RangeLevels first second) outcome none (inr is) = absurd (subst (λ o. IfErr o NoLevels) is none)
  names_none (fault.UnknownCube name) outcome none is = tt
  names_none (fault.UnknownMember name) outcome none is = tt
  names_none (fault.CommonDimension dimension) outcome none is = tt
  names_none (fault.Mismatch first second) outcome none is = tt
  names_none fault.NoMeasures outcome none is = tt
  names_none (fault.TooManyBoxes count limit) outcome none is = tt
  names_none fault.OutOfMemory outcome none is = tt

  -- of a path
  pub path_names : (path : List (List ℕ)) (f : RegionFault) → IsFaultOf f (region_member catalog cube path) → NamesMembers catalog cube f
  path_names path f is = names_none f (region_member catalog cube path) (member_none (member_of catalog cube path)) is

  -- of regions together
  pub joined_names : (how : Joins) (parts : List Region) (f : RegionFault) → IsFaultOf f (joined_meant how cube parts) → NamesMembers catalog cube f
  joined_names how parts f is = names_none f (joined_meant how cube parts) (joined_none how cube parts) is

  -- of a range
  pub range_names : (first last : Member) (f : RegionFault) → IsMemberOf catalog cube first → IsMemberOf catalog cube last → IsFaultOf f (range_meant catalog cube first last) → NamesMembers catalog cube f
  range_names first last f own other is = by (in_one_level first last) f is
    where
      members : List Member
      members = members_from catalog cube first last

      answer : Result Region RegionRefusal
      answer = unless (too_many_boxes (length members)) (Ok (members_region catalog cube (dim_of catalog first) members))

      by : (b : Bool) (g : RegionFault) → IsFaultOf g (unless (if b then None else Some (RangeLevels first last)) answer) → NamesMembers catalog cube g
      by true g at = names_none g answer (either_none (too_many_boxes (length members)) (Ok (members_region catalog cube (dim_of catalog first) members)) (many_none (length members)) tt) at
      by false (fault.RangeLevels a b) (inl short) = absurd (cc short)
      by false (fault.RangeLevels a b) (inr at) =
          let one : first ≡ a = cc at in
          let two : last ≡ b = cc at in
          (subst (IsMemberOf catalog cube) one own, subst (IsMemberOf catalog cube) two other)
      by false (fault.UnknownCube name) at = tt
      by false (fault.UnknownMember name) at = tt
      by false (fault.CommonDimension dimension) at = tt
      by false (fault.Mismatch a b) at = tt
      by false fault.NoMeasures at = tt
      by false (fault.TooManyBoxes count limit) at = tt
      by false fault.OutOfMemory at = tt

  -- of a text, where the cube is known
  pub text_names : (text : RegionText) (f : RegionFault) → find_cube catalog text.cube ≡ Some cube → NamesMembers catalog cube f → NamesMembersOf catalog text f
  text_names text (fault.RangeLevels a b) found is = subst (λ o. IsSomeAnd o (λ k. IsMemberOf catalog k a × IsMemberOf catalog k b)) (sym found) is
  text_names text (fault.UnknownCube name) found is = tt
  text_names text (fault.UnknownMember name) found is = tt
  text_names text (fault.CommonDimension dimension) found is = tt
  text_names text (fault.Mismatch a b) found is = tt
  text_names text fault.NoMeasures found is = tt
  text_names text (fault.TooManyBoxes count limit) found is = tt
  text_names text fault.OutOfMemory found is = tt

-- of a name that no cube has
pub cube_names : (catalog : Catalog) (text : RegionText) (f : RegionFault) (name : List ℕ) → (f ≡ fault.OutOfMemory) ⊎ (f ≡ fault.UnknownCube name) → NamesMembersOf catalog text f
cube_names catalog text f name (inl short) = subst (NamesMembersOf catalog text) (sym short) tt
cube_names catalog text f name (inr named) = subst (NamesMembersOf catalog text) (sym named) tt
