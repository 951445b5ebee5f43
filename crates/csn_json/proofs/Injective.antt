-- No two trees have the same value.
use Rattle.std.proofs.Common.{◌≡◌, ℕ, List, [], ◌∷◌, ap}
use Rattle.csn_bits.specs.Laws.{WrittenApart}
use Rattle.csn_desc.specs.TreeV.{TreeV, empty, bits, row, alt, named, Trees, none, more}
use Rattle.csn_desc.specs.TreeParts.{HasTreeParts, AllHaveTreeParts}
use Rattle.csn_json.specs.JsonTree.{json_of, items_of}

module _ (apart : WrittenApart) where
  mutual
    pub json_of-one : (t u : TreeV) → HasTreeParts t → HasTreeParts u → json_of t ≡ json_of u → t ≡ u
    json_of-one empty empty x y p = cc
    json_of-one (bits b) (bits c) x y p = ap bits (apart b c x.0 y.0 (cc))
    json_of-one (row ts) (row us) x y p = ap row (items_of-one ts us x y (cc))
    json_of-one (alt i t) (alt j u) x y p =
        let numbers_agree : i ≡ j = cc in let trees_agree : t ≡ u = json_of-one t u x y (cc) in cc
    json_of-one (named l t) (named m u) x y p =
        let labels_agree : l ≡ m = cc in let trees_agree : t ≡ u = json_of-one t u x.1 y.1 (cc) in cc
    json_of-one _ _ x y p = cc

    items_of-one : (ts us : Trees) → AllHaveTreeParts ts → AllHaveTreeParts us → items_of ts ≡ items_of us → ts ≡ us
    items_of-one none none x y p = cc
    items_of-one (more t ts) (more u us) x y p =
        let heads_agree : t ≡ u = json_of-one t u x.0 y.0 (cc) in let tails_agree : ts ≡ us = items_of-one ts us x.1 y.1 (cc) in cc
    items_of-one _ _ x y p = cc
