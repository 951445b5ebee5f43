-- The products that were made stay right when tables are kept.
use Rattle.std.proofs.Common.{◌↔◌, Bool, true, false, nat_eq, if◌then◌else◌, ◌≡◌, ℕ, ◌%◌, ◌-◌, ◌<◌, ◌≤◌, List, []}
use Rattle.std.proofs.Common.{◌∷◌, ◌++◌, length, get_or, refl, sym, ap, ◌∙◌, subst, arith, inl, inr, Some}
use Rattle.std.proofs.Common.{length-append}
use Rattle.std.specs.Prelude.{slice_get}
use Rattle.std.proofs.lemmas.Bool.{cases_order, eqb-true}
use Rattle.std.proofs.lemmas.Option.{slice_get_within, slice_get-get_or, get_or_from_slice_get}
use Rattle.std.proofs.lemmas.List.{get_or_append_left, get_or-append_right}
use Rattle.csn_look.specs.declared.table_maker.Product.{Product}
use Rattle.csn_look.specs.KeyMarks.{IsWord, place_of, key_mark}
use Rattle.csn_look.specs.KeyProducts.{AfterKeys}
use Rattle.csn_look.specs.KeyRows.{table_of, HasTable, IsMore}
use Rattle.csn_look.specs.MadeProducts.{IsProduct, AreProducts, leaf_of_size, LeafKeys, AreLeaves, AreMade}
use Rattle.indexmap.specs.IndexMap.{IndexMap, get, Updates, IsUnchanged}
use Rattle.csn_look.proofs.Tables.KeyMarkFacts.{key_mark-same, key_mark-low}
use Rattle.csn_look.proofs.Tables.RowFacts.{more_length, table_stays, has_stays, keys_as, after_as}

-- a product of tables that are followed by more
pub product_of :
    (old new : List (List ℕ)) (first : ℕ) (rests : List ℕ) (at : ℕ) → IsMore old new → first < length old
    → ((size : ℕ) → size < 8 → get_or rests size 0 < length old)
    → HasTable new at (AfterKeys (table_of old first) (λ size. table_of old (get_or rests (size % 8) 0))) → IsProduct new first rests at
product_of old new first rests at more inside others has =
    let longer = more_length old new more in
    record {
      one = omega arith;
      others = λ size low. let o = others size low in omega arith;
      table = record {
        within = has.within;
        keys =
            keys_as (table_of new at)
            (AfterKeys (table_of old first) (λ size. table_of old (get_or rests (size % 8) 0)))
            (AfterKeys (table_of new first) (λ size. table_of new (get_or rests (size % 8) 0))) has.keys
            (λ word mark is. (
              (λ k. after_as (table_of old first) (table_of new first)
                  (λ size. table_of old (get_or rests (size % 8) 0))
                  (λ size. table_of new (get_or rests (size % 8) 0)) (sym (table_stays old new first more inside))
                  (λ size. sym (each size)) k),
              (λ k. after_as (table_of new first) (table_of old first)
                  (λ size. table_of new (get_or rests (size % 8) 0))
                  (λ size. table_of old (get_or rests (size % 8) 0)) (table_stays old new first more inside) each k),
            ));
      };
    }
  where
    each : (size : ℕ) → table_of new (get_or rests (size % 8) 0) ≡ table_of old (get_or rests (size % 8) 0)
    each size = let low : size % 8 < 8 = omega arith in table_stays old new (get_or rests (size % 8) 0) more (others (size % 8) low)

pub product_stays : (old new : List (List ℕ)) (first : ℕ) (rests : List ℕ) (at : ℕ)
    → IsMore old new → IsProduct old first rests at → IsProduct new first rests at
product_stays old new first rests at more p =
    product_of old new first rests at more p.one p.others
    (has_stays old new at (AfterKeys (table_of old first) (λ size. table_of old (get_or rests (size % 8) 0)))
    more p.table)

pub products_stay : (old new : List (List ℕ)) (products : List Product) → IsMore old new → AreProducts old products → AreProducts new products
products_stay old new products more are = λ i p at. product_stays old new p.first p.rests p.at more (are i p at)

pub product_kept : (tables : List (List ℕ)) (products : List Product) (p : Product)
    → AreProducts tables products → IsProduct tables p.first p.rests p.at → AreProducts tables (products ++ p ∷ [])
product_kept tables products p are is = λ i q at. elim (cases_order i (length products)) [
  | inl here ↦ last i q at (omega (arith, here))
  | inr apart ↦ elim apart [
    | inl earlier ↦
        let e : get_or (products ++ p ∷ []) i q ≡ get_or products i q = get_or_append_left products (p ∷ []) q i earlier in
        are i q (slice_get-get_or products i q earlier ∙ ap (λ x. Some x) (sym e ∙ get_or_from products i q at))
    | inr later ↦ last i q at (omega (arith, later))
  ]
]
  where
    get_or_from : (ps : List Product) (i : ℕ) (q : Product) → slice_get (ps ++ p ∷ []) i ≡ Some q → get_or (ps ++ p ∷ []) i q ≡ q
    get_or_from ps i q at = get_or_from_slice_get (ps ++ p ∷ []) i q q at

    last : (i : ℕ) (q : Product) → slice_get (products ++ p ∷ []) i ≡ Some q → length products ≤ i → IsProduct tables q.first q.rests q.at
    last i q at far =
        let inside = slice_get_within (products ++ p ∷ []) i q at in
        let end : i ≡ length products = omega (arith, length-append products (p ∷ [])) in
        let none : i - length products ≡ 0 = omega arith in
        let e : get_or (products ++ p ∷ []) i q ≡ p = get_or-append_right products (p ∷ []) (length products)
        i q refl far ∙ ap (λ n. get_or (p ∷ []) n q) none in
        let same : p ≡ q = sym e ∙ get_or_from products i q at in
        let P : Product → Type 0 = λ r. IsProduct tables r.first r.rests r.at in
        subst P same is

-- ---- and so do the tables that are looked up

pub leaves_stay : {S : Type 0} (old new : List (List ℕ)) (leaves : IndexMap ℕ ℕ S) → IsMore old new → AreLeaves old leaves → AreLeaves new leaves
leaves_stay old new leaves more are = λ leaf at there. has_stays old new at (LeafKeys leaf) more (are leaf at there)

pub made_stays : {S : Type 0} (old new : List (List ℕ)) (products : List Product) (leaves : IndexMap ℕ ℕ S)
    → IsMore old new → AreMade old products leaves → AreMade new products leaves
made_stays old new products leaves more are = record {
  right_products = products_stay old new products more are.right_products;
  right_leaves = leaves_stay old new leaves more are.right_leaves;
}

-- one more that is looked up
pub leaf_kept : {S : Type 0} (tables : List (List ℕ)) (leaves new : IndexMap ℕ ℕ S) (leaf at : ℕ)
    → Updates nat_eq leaves new leaf (Some at) → HasTable tables at (LeafKeys leaf)
    → AreLeaves tables leaves → AreLeaves tables new
leaf_kept tables leaves new leaf at up has are = λ other found there. by other found (nat_eq leaf other) refl (sym (up.0 other) ∙ there)
  where
    by : (other found : ℕ) (same : Bool)
        → nat_eq leaf other ≡ same → (if nat_eq leaf other then Some at else get nat_eq leaves other) ≡ Some found
        → HasTable tables found (LeafKeys other)
    by other found true e there =
        let is : leaf ≡ other = eqb-true leaf other e in
        let one : Some at ≡ Some found = rw e at there in
        let same : at ≡ found = cc in
        let P : ℕ → Type 0 = λ n. HasTable tables n (LeafKeys other) in
        let Q : ℕ → Type 0 = λ n. HasTable tables at (LeafKeys n) in
        subst P same (subst Q is has)
    by other found false e there =
        let old : get nat_eq leaves other ≡ Some found = rw e at there in
        are other found old

pub leaves_same : {S : Type 0} (tables : List (List ℕ)) (leaves new : IndexMap ℕ ℕ S) → IsUnchanged leaves new → AreLeaves tables leaves → AreLeaves tables new
leaves_same tables leaves new same are = λ leaf at there. are leaf at (rw same at there)

-- ---- what is looked up

pub leaf_is_key : (word : List ℕ) (whole : Bool) → IsWord word → (key : List ℕ) (mark : Bool)
    → IsWord key → ((key ≡ word) × (mark ≡ whole)) ↔ LeafKeys (key_mark (place_of word) whole) key mark
leaf_is_key word whole is key mark is_key = (
  (λ h. inl (ap (λ w. key_mark (place_of w) mark) h.0 ∙ ap (λ m. key_mark (place_of word) m) h.1)),
  (λ h. elim h [
    | inl e ↦ key_mark-same key word mark whole is_key is e
    | inr e ↦ absurd (apart mark e)
  ]),
)
  where
    apart : (m : Bool) → leaf_of_size (length key) m ≡ key_mark (place_of word) whole → ⊥
    apart true e = omega (arith, e, key_mark-low word whole is)
    apart false e = omega (arith, e, key_mark-low word whole is)

pub leaf_is_size : (size : ℕ) (whole : Bool) → size ≤ 12 → (key : List ℕ) (mark : Bool)
    → IsWord key → ((length key ≡ size) × (mark ≡ whole)) ↔ LeafKeys (leaf_of_size size whole) key mark
leaf_is_size size whole few key mark is = (
  (λ h. inr (ap (λ n. leaf_of_size n mark) h.0 ∙ ap (λ m. leaf_of_size size m) h.1)),
  (λ h. elim h [
    | inl e ↦ absurd (apart whole e)
    | inr e ↦ same mark whole e
  ]),
)
  where
    apart : (w : Bool) → key_mark (place_of key) mark ≡ leaf_of_size size w → ⊥
    apart true e = omega (arith, e, key_mark-low key mark is)
    apart false e = omega (arith, e, key_mark-low key mark is)

    same : (m w : Bool) → leaf_of_size (length key) m ≡ leaf_of_size size w → (length key ≡ size) × (m ≡ w)
    same true true e = (omega (arith, e), refl)
    same false false e = (omega (arith, e), refl)
    same true false e = absurd (omega (arith, e, is.short))
    same false true e = absurd (omega (arith, e, is.short))

-- a table as it is looked up
pub has_leaf : (tables : List (List ℕ)) (at : ℕ) (P Q : List ℕ → Bool → Type 0)
    → ((word : List ℕ) (mark : Bool) → IsWord word → P word mark ↔ Q word mark)
    → HasTable tables at P → HasTable tables at Q
has_leaf tables at P Q same has = record { within = has.within; keys = keys_as (table_of tables at) P Q has.keys same }

pub back_and_forth : (P Q : List ℕ → Bool → Type 0)
    → ((word : List ℕ) (mark : Bool) → IsWord word → P word mark ↔ Q word mark) → (word : List ℕ) (mark : Bool)
    → IsWord word → Q word mark ↔ P word mark
back_and_forth P Q same word mark is = let s = same word mark is in (s.1, s.0)
