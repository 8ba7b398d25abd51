-- What is taken after one hierarchy more, and after one dimension more.
use Rattle.std.proofs.Common.{◌≡◌, ◌∙◌, ◌+◌, ◌≤◌, ℕ, List, [], ◌∷◌, ◌++◌, length, flat_map, refl, sym, ap, arith, append_assoc, append-nil, length-append}
use Rattle.std.proofs.lemmas.List.{map-append}
use Rattle.olap_meaning.specs.FullNames.{joined_name}
use Rattle.olap_meaning.specs.Schema.{levels_of}
use Rattle.olap_meaning.specs.declared.schema.TheConstants.{LEVEL_LIMIT}
use Rattle.olap_meaning.specs.declared.schema.SchemaDimension.{SchemaDimension}
use Rattle.olap_meaning.specs.declared.schema.SchemaHierarchy.{SchemaHierarchy}
use Rattle.cube_schema.specs.declared.hierarchies.Taken.{Taken}
use Rattle.cube_schema.specs.Dimensions.{all_full_names, full_names, levels_in}
use Rattle.cube_schema.specs.Taken.{IsTakenBy, IsTakenWith}

-- one part more of what each of some items has
pub flat_more : {A B : Type 0} (f : A → List B) (xs : List A) (x : A) → flat_map f (xs ++ x ∷ []) ≡ flat_map f xs ++ f x
flat_more f [] x = append-nil (f x)
flat_more f (y ∷ ys) x = ap (λ rest. f y ++ rest) (flat_more f ys x) ∙ sym (append_assoc (f y) (flat_map f ys) (f x))

-- before the first dimension nothing is taken
pub none_taken : IsTakenBy [] (record { names = []; levels = 0 })
none_taken = record { names = refl; levels = refl; room = omega arith }

-- before the first hierarchy of a dimension
pub taken_before : (dimensions : List SchemaDimension) (name : List ℕ) (taken : Taken) → IsTakenBy dimensions taken → IsTakenWith dimensions name [] taken
taken_before dimensions name taken h = record {
  names = h.names ∙ sym (append-nil (all_full_names dimensions));
  levels = omega (arith, h.levels);
  room = h.room;
}

-- after one hierarchy more
pub taken_more : (dimensions : List SchemaDimension) (name : List ℕ) (earlier : List SchemaHierarchy) (hierarchy : SchemaHierarchy) (taken after : Taken) → IsTakenWith dimensions name earlier taken
    → taken.levels + length hierarchy.levels ≤ LEVEL_LIMIT
    → after ≡ record { names = taken.names ++ joined_name name hierarchy.name ∷ []; levels = taken.levels + length hierarchy.levels }
    → IsTakenWith dimensions name (earlier ++ hierarchy ∷ []) after
taken_more dimensions name earlier hierarchy taken after h room is =
    let names = ap (λ (t : Taken). t.names) is in
    let count = ap (λ (t : Taken). t.levels) is in
    let added = ap length (flat_more (λ (x : SchemaHierarchy). x.levels) earlier hierarchy) ∙ length-append (levels_in earlier) hierarchy.levels in
    record {
      names = names ∙ ap (λ taken_names. taken_names ++ joined_name name hierarchy.name ∷ []) h.names
          ∙ append_assoc (all_full_names dimensions) (full_names name earlier) (joined_name name hierarchy.name ∷ [])
          ∙ ap (λ own. all_full_names dimensions ++ own) (sym (map-append (λ (x : SchemaHierarchy). joined_name name x.name) earlier (hierarchy ∷ [])));
      levels = omega (arith, count, h.levels, added);
      room = omega (arith, count, room);
    }

-- after one dimension more
pub taken_after : (dimensions : List SchemaDimension) (dimension : SchemaDimension) (taken : Taken) → IsTakenWith dimensions dimension.name dimension.hierarchies taken → IsTakenBy (dimensions ++ dimension ∷ []) taken
taken_after dimensions dimension taken h =
    let added = ap length (flat_more levels_of dimensions dimension) ∙ length-append (flat_map levels_of dimensions) (levels_of dimension) in
    record {
      names = h.names ∙ sym (flat_more (λ (d : SchemaDimension). full_names d.name d.hierarchies) dimensions dimension);
      levels = omega (arith, h.levels, added);
      room = h.room;
    }

pub ruleset taken_facts = (none_taken, taken_before, taken_more, taken_after)
