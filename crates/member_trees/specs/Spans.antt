-- The places of the paths one level below a path, among those of their depth.
use Rattle.std.specs.Prelude.{ℕ, suc, ◌≡◌, ◌≤◌, List, length, map, slice_range}
use Rattle.member_trees.specs.declared.node.Node.{Node}
use Rattle.olap_meaning.specs.Catalog.{at_depth, below}

-- the last values of a row's paths
abbrev pub values : List Node → List ℕ
values row = map (λ node. node.value) row

-- the places at which the paths below a row's paths begin
abbrev pub firsts : List Node → List ℕ
firsts row = map (λ node. node.first) row

-- the paths one level below a path of a depth stand from a place to another
pub record IsSpan (leaves : List (List ℕ)) (depth : ℕ) (path : List ℕ) (start end : ℕ)
    : Type 0 where
  pub long : length path ≡ depth
  pub ordered : start ≤ end
  pub within : end ≤ length (at_depth leaves (suc depth))
  pub are : slice_range (at_depth leaves (suc depth)) start end ≡ below leaves path
