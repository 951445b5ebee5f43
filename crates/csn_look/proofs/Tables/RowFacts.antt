-- Rows of tables of keys: tables stay when others are kept, and a row is filled place by place.
use Rattle.std.proofs.Common.{◌≡◌, ◌≢◌, ℕ, ◌+◌, ◌%◌, ◌<◌, ◌≤◌, ◌⊎◌, ◌↔◌, Bool, true, false, List, [], ◌++◌, length}
use Rattle.std.proofs.Common.{get_or, set, sym, ap, ◌∙◌, subst, arith, inl, inr, append_assoc, append-nil}
use Rattle.std.proofs.Common.{length-append, length-set, get_or-set_same, get_or-set_other}
use Rattle.std.specs.Prelude.{IsTrue, Result, IfOk}
use Rattle.std.proofs.lemmas.List.{get_or_append_left}
use Rattle.std.proofs.lemmas.Bool.{cases_order}
use Rattle.std.proofs.lemmas.Result.{IfOk-weaker}
use Rattle.csn_look.specs.KeyMarks.{IsWord, has_key, KeysAre, Adds}
use Rattle.csn_look.specs.KeyRows.{table_of, HasTable, HasRow, IsMore, Makes, MakesTable, AreTables, IsSameRow, RowAfter}
use Rattle.csn_look.specs.KeyProducts.{AfterKeys, after_cut, after_whole}

-- ---- sets of keys

pub keys_as : (marks : List ℕ) (P Q : List ℕ → Bool → Type 0)
    → KeysAre marks P → ((word : List ℕ) (mark : Bool) → IsWord word → P word mark ↔ Q word mark) → KeysAre marks Q
keys_as marks P Q are same = λ word mark is.
    let a = are word mark is in
    let s = same word mark is in
    (λ key. s.0 (a.0 key), λ h. a.1 (s.1 h))

-- keys more than some
pub keys_added : (old new : List ℕ) (P Q : List ℕ → Bool → Type 0) → KeysAre old P → Adds old new Q → KeysAre new (λ word mark. P word mark ⊎ Q word mark)
keys_added old new P Q are adds = λ word mark is.
    let a = are word mark is in
    let b = adds word mark is in
    (λ key. elim (b.0 key) [ inl o ↦ inl (a.0 o) | inr q ↦ inr q ], λ h. b.1 (elim h [ inl p ↦ inl (a.1 p) | inr q ↦ inr q ]))

-- keys more than none
pub keys_first : (old new : List ℕ) (Q : List ℕ → Bool → Type 0) → KeysAre old (λ word mark. ⊥) → Adds old new Q → KeysAre new Q
keys_first old new Q none adds = λ word mark is.
    let a = none word mark is in
    let b = adds word mark is in
    (λ key. elim (b.0 key) [ inl o ↦ absurd (a.0 o) | inr q ↦ q ], λ h. b.1 (inr h))

-- ---- tables stay

pub more_none : (tables : List (List ℕ)) → IsMore tables tables
more_none tables = ([], sym (append-nil tables))

pub more_then : (a b c : List (List ℕ)) → IsMore a b → IsMore b c → IsMore a c
more_then a b c (x, e) (y, f) = (x ++ y, f ∙ ap (λ l. l ++ y) e ∙ append_assoc a x y)

pub more_length : (old new : List (List ℕ)) → IsMore old new → length old ≤ length new
more_length old new (x, e) = let same = ap length e in omega (arith, same, length-append old x)

pub table_stays : (old new : List (List ℕ)) (at : ℕ) → IsMore old new → at < length old → table_of new at ≡ table_of old at
table_stays old new at (x, e) inside = ap (λ l. get_or l at []) e ∙ get_or_append_left old x [] at inside

pub has_stays : (old new : List (List ℕ)) (at : ℕ) (P : List ℕ → Bool → Type 0) → IsMore old new → HasTable old at P → HasTable new at P
has_stays old new at P more h =
    let longer = more_length old new more in
    let inside = h.within in
    let Q : List ℕ → Type 0 = λ marks. KeysAre marks P in
    record { within = omega arith; keys = subst Q (sym (table_stays old new at more h.within)) h.keys }

pub row_stays : (old new : List (List ℕ)) (row : List ℕ) (P : ℕ → List ℕ → Bool → Type 0) → IsMore old new → HasRow old row P → HasRow new row P
row_stays old new row P more h = record { eight = h.eight; keys = λ o low. has_stays old new (get_or row o 0) (P o) more (h.keys o low) }

pub row_tables : (tables : List (List ℕ)) (row : List ℕ) (P : ℕ → List ℕ → Bool → Type 0) → HasRow tables row P → AreTables tables row
row_tables tables row P h = λ o low. (h.keys o low).within

pub row_as : (tables : List (List ℕ)) (row : List ℕ) (P Q : ℕ → List ℕ → Bool → Type 0)
    → HasRow tables row P
    → ((o : ℕ) (word : List ℕ) (mark : Bool) → o ≤ 7 → IsWord word → P o word mark ↔ Q o word mark)
    → HasRow tables row Q
row_as tables row P Q h same = record {
  eight = h.eight;
  keys = λ o low.
      let t = h.keys o low in
      record { within = t.within; keys = keys_as (table_of tables (get_or row o 0)) (P o) (Q o) t.keys (λ word mark is. same o word mark low is) };
}

pub makes_as : (old new : List (List ℕ)) (row : List ℕ) (P Q : ℕ → List ℕ → Bool → Type 0)
    → Makes old new row P
    → ((o : ℕ) (word : List ℕ) (mark : Bool) → o ≤ 7 → IsWord word → P o word mark ↔ Q o word mark)
    → Makes old new row Q
makes_as old new row P Q h same = record { more = h.more; has = row_as new row P Q h.has same }

-- a table that was kept
pub kept_table : (old new : List (List ℕ)) (at : ℕ) (marks : List ℕ) (P : List ℕ → Bool → Type 0)
    → IsMore old new → at < length new → table_of new at ≡ marks → KeysAre marks P → MakesTable old new at P
kept_table old new at marks P more inside same are =
    let Q : List ℕ → Type 0 = λ m. KeysAre m P in
    record { more = more; table = record { within = inside; keys = subst Q (sym same) are } }

-- one table at each octet position
same_row : (old new : List (List ℕ)) (row marks : List ℕ) (P : ℕ → List ℕ → Bool → Type 0)
    → ((o : ℕ) → o ≤ 7 → KeysAre marks (P o)) → IsSameRow old new row marks → Makes old new row P
same_row old new row marks P are h = record {
  more = h.more;
  has = record {
    eight = h.eight;
    keys = λ o low.
        let Q : List ℕ → Type 0 = λ m. KeysAre m (P o) in
        record { within = h.within o low; keys = subst Q (sym (h.same o low)) (are o low) };
  };
}

pub same_tables :
    {E : Type 0} (r : Result (List ℕ) E) (old new : List (List ℕ)) (marks : List ℕ) (P : ℕ → List ℕ → Bool → Type 0) → ((o : ℕ) → o ≤ 7 → KeysAre marks (P o))
    → IfOk r (λ row. IsSameRow old new row marks) → IfOk r (λ row. Makes old new row P)
same_tables r old new marks P are h =
    IfOk-weaker r (λ row. IsSameRow old new row marks) (λ row. Makes old new row P) (λ row is. same_row old new row marks P are is) h

pub makes_same : (old new : List (List ℕ)) (row : List ℕ) (at : ℕ) (P : ℕ → List ℕ → Bool → Type 0)
    → length row ≡ 8 → ((o : ℕ) → o ≤ 7 → get_or row o 0 ≡ at)
    → IsMore old new → ((o : ℕ) → o ≤ 7 → HasTable new at (P o)) → Makes old new row P
makes_same old new row at P eight same more has = record {
  more = more;
  has = record {
    eight = eight;
    keys = λ o low. let Q : ℕ → Type 0 = λ n. HasTable new n (P o) in subst Q (sym (same o low)) (has o low);
  };
}

-- what a row of one table has at its first place it has everywhere
pub row_alike : (tables : List (List ℕ)) (row : List ℕ) (P : ℕ → List ℕ → Bool → Type 0)
    → HasRow tables row P → ((o : ℕ) → o ≤ 7 → get_or row o 0 ≡ get_or row 0 0)
    → (o : ℕ) (word : List ℕ) (mark : Bool) → o ≤ 7 → IsWord word → P 0 word mark ↔ P o word mark
row_alike tables row P has same o word mark low is =
    let Q : ℕ → Type 0 = λ n. KeysAre (table_of tables n) (P o) in
    let first = (has.keys 0 (omega arith)).keys word mark is in
    let here = subst Q (same o low) (has.keys o low).keys word mark is in
    (λ h. here.0 (first.1 h), λ h. first.0 (here.1 h))

-- ---- a row that is filled from its first place on

pub record RowBelow (old new : List (List ℕ)) (row : List ℕ) (end : ℕ) (P : ℕ → List ℕ → Bool → Type 0) : Type 0 where
  pub more : IsMore old new
  pub eight : length row ≡ 8
  pub keys : (o : ℕ) → o < end → HasTable new (get_or row o 0) (P o)

pub row_none : (old : List (List ℕ)) (row : List ℕ) (P : ℕ → List ℕ → Bool → Type 0) → length row ≡ 8 → RowBelow old old row 0 P
row_none old row P eight = record { more = more_none old; eight = eight; keys = λ o low. absurd (omega arith) }

pub row_next : (old mid new : List (List ℕ)) (row : List ℕ) (end at : ℕ) (P : ℕ → List ℕ → Bool → Type 0)
    → end < 8 → RowBelow old mid row end P → MakesTable mid new at (P end)
    → RowBelow old new (set row end at) (end + 1) P
row_next old mid new row end at P inside before next = record {
  more = more_then old mid new before.more next.more;
  eight = length-set row end at ∙ before.eight;
  keys = λ o low. elim (cases_order o end) [
    | inl here ↦
        let within : end < length row = omega (arith, before.eight) in
        let is : get_or (set row end at) o 0 ≡ at = ap (λ n. get_or (set row end at) n 0) here ∙ get_or-set_same row end at 0 within in
        let Q : ℕ → Type 0 = λ n. HasTable new n (P end) in
        let R : ℕ → Type 0 = λ p. HasTable new (get_or (set row end at) o 0) (P p) in
        subst R (sym here) (subst Q (sym is) next.table)
    | inr apart ↦ elim apart [
      | inl earlier ↦
          let differ : o ≢ end = omega (arith, earlier) in
          let is : get_or (set row end at) o 0 ≡ get_or row o 0 = get_or-set_other row end o at 0 differ in
          let Q : ℕ → Type 0 = λ n. HasTable new n (P o) in
          subst Q (sym is) (has_stays mid new (get_or row o 0) (P o) next.more (before.keys o earlier))
      | inr later ↦ absurd (omega (arith, low, later))
    ]
  ];
}

pub row_all : (old new : List (List ℕ)) (row : List ℕ) (end : ℕ) (P : ℕ → List ℕ → Bool → Type 0) → 8 ≤ end → RowBelow old new row end P → Makes old new row P
row_all old new row end P all h = record { more = h.more; has = record { eight = h.eight; keys = λ o low. h.keys o (omega arith) } }

-- ---- one part after another

pub after_as : {word : List ℕ} {mark : Bool} (first other : List ℕ) (rests others : ℕ → List ℕ)
    → first ≡ other → ((size : ℕ) → rests size ≡ others size) → AfterKeys first rests word mark
    → AfterKeys other others word mark
after_as {word} {mark} first other rests others e f (after_cut key same) =
    let P : List ℕ → Type 0 = λ l. IsTrue (has_key l word false) in
    after_cut (subst P e key) same
after_as {word} {mark} first other rests others e f (after_whole front back whole is key is_back behind left) =
    let P : List ℕ → Type 0 = λ l. IsTrue (has_key l front true) in
    let Q : List ℕ → Type 0 = λ l. IsTrue (has_key l back whole) in
    after_whole front back whole is (subst P e key) is_back (subst Q (f (length front)) behind) left

-- the product at one octet position, by tables that have stayed and the row as it is seen from there
pub after_at :
    (start mid new : List (List ℕ)) (first rest turned : List ℕ) (o at : ℕ) → o ≤ 7 → IsMore start mid → AreTables start first → AreTables start rest
    → ((size : ℕ) → size < 8 → get_or turned size 0 ≡ get_or rest ((o + size) % 8) 0)
    → MakesTable mid new at (AfterKeys (table_of mid (get_or first o 0)) (λ size. table_of mid (get_or turned (size % 8) 0)))
    → MakesTable mid new at (RowAfter start first rest o)
after_at start mid new first rest turned o at low more one two seen h = record {
  more = h.more;
  table = record {
    within = h.table.within;
    keys =
        keys_as (table_of new at) (AfterKeys now rests) (RowAfter start first rest o) h.table.keys
        (λ word mark is. ((λ k. after_as now then rests thens same each k), (λ k. after_as then now thens rests (sym same) (λ size. sym (each size)) k)));
  };
}
  where
    now : List ℕ
    now = table_of mid (get_or first o 0)

    then : List ℕ
    then = table_of start (get_or first o 0)

    rests : ℕ → List ℕ
    rests size = table_of mid (get_or turned (size % 8) 0)

    thens : ℕ → List ℕ
    thens size = table_of start (get_or rest ((o + size) % 8) 0)

    same : now ≡ then
    same = table_stays start mid (get_or first o 0) more (one o low)

    each : (size : ℕ) → rests size ≡ thens size
    each size =
        let small : size % 8 < 8 = omega arith in
        let place : (o + size % 8) % 8 ≡ (o + size) % 8 = omega arith in
        ap (λ n. table_of mid n) (seen (size % 8) small ∙ ap (λ p. get_or rest p 0) place)
        ∙ table_stays start mid (get_or rest ((o + size) % 8) 0) more (two ((o + size) % 8) (omega arith))

-- the product of two rows of one table is one table
pub after_same :
    (old new : List (List ℕ)) (first rest : List ℕ) (at o : ℕ)
    → o ≤ 7 → ((p : ℕ) → p ≤ 7 → get_or first p 0 ≡ get_or first 0 0)
    → ((p : ℕ) → p ≤ 7 → get_or rest p 0 ≡ get_or rest 0 0)
    → HasTable new at (AfterKeys (table_of old (get_or first 0 0)) (λ size. table_of old (get_or rest (size % 8) 0)))
    → HasTable new at (RowAfter old first rest o)
after_same old new first rest at o low one two h = record {
  within = h.within;
  keys =
      keys_as (table_of new at) (AfterKeys (table_of old (get_or first 0 0))
      (λ size. table_of old (get_or rest (size % 8) 0))) (RowAfter old first rest o) h.keys
      (λ word mark is. (
        (λ k. after_as (table_of old (get_or first 0 0)) (table_of old (get_or first o 0))
            (λ size. table_of old (get_or rest (size % 8) 0)) (λ size. table_of old (get_or rest ((o + size) % 8) 0))
            same each k),
        (λ k. after_as (table_of old (get_or first o 0)) (table_of old (get_or first 0 0))
            (λ size. table_of old (get_or rest ((o + size) % 8) 0)) (λ size. table_of old (get_or rest (size % 8) 0))
            (sym same) (λ size. sym (each size)) k),
      ));
}
  where
    same : table_of old (get_or first 0 0) ≡ table_of old (get_or first o 0)
    same = ap (λ n. table_of old n) (sym (one o low))

    each : (size : ℕ) → table_of old (get_or rest (size % 8) 0) ≡ table_of old (get_or rest ((o + size) % 8) 0)
    each size = ap (λ n. table_of old n) (two (size % 8) (omega arith) ∙ sym (two ((o + size) % 8) (omega arith)))

pub tables_stay : (old new : List (List ℕ)) (row : List ℕ) → IsMore old new → AreTables old row → AreTables new row
tables_stay old new row more are = λ o low. let inside = are o low in let longer = more_length old new more in omega arith
