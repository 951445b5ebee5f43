-- The rows of all nodes, made from the last node to the first, and those of repetitions.
use Rattle.std.proofs.Common.{◌≡◌, ◌≢◌, ℕ, suc, ◌+◌, ◌-◌, ◌<◌, ◌≤◌, ◌↔◌, Bool, List, [], ◌∷◌, length, get_or, set}
use Rattle.std.proofs.Common.{refl, sym, ap, ◌∙◌, subst, arith, inl, inr, Some, length-set, get_or-set_same}
use Rattle.std.proofs.Common.{get_or-set_other}
use Rattle.std.specs.Prelude.{slice_get, IfOk, Result}
use Rattle.std.proofs.lemmas.Result.{IfOk-weaker}
use Rattle.std.proofs.lemmas.Bool.{cases_order}
use Rattle.std.proofs.lemmas.Option.{slice_get_within, slice_get-get_or, get_or_from_slice_get}
use Rattle.csn_desc.specs.declared.node.Node.{Node}
use Rattle.csn_desc.specs.Nodes.{DescV, parts_of}
use Rattle.csn_look.specs.declared.node_sets.NodeSets.{NodeSets}
use Rattle.csn_look.specs.Keys.{InKeys, NodeKeys, PartsKeys, TimesKeys}
use Rattle.csn_look.specs.KeyMarks.{KeysAre}
use Rattle.csn_look.specs.LookV.{IsRow, AreRows}
use Rattle.csn_look.specs.LookKeys.{IsKeysOf}
use Rattle.csn_look.specs.KeyRows.{table_of, HasRow, IsMore, Makes, RowAfter, IsRowed, AreRowed, HasRows}
use Rattle.csn_look.proofs.Meaning.LeastSets.{keys_at, as_keys}
use Rattle.csn_look.proofs.Tables.KeyWords.{times_word}
use Rattle.csn_look.proofs.Tables.NodeKeys.{IsStable, stable_for_ever}
use Rattle.csn_look.proofs.Tables.RowFacts.{more_then, row_stays, row_as, makes_as}
use Rattle.csn_look.proofs.Tables.RowKeys.{row_parts, row_times}

module _ (d : DescV) where
  -- ---- a repetition

  pub times_next :
      (start mid new : List (List ℕ)) (once row more : List ℕ) (i n : ℕ) → HasRow start once (InKeys d 12 i) → IsMore start mid
      → HasRow mid row (TimesKeys d 12 n i) → Makes mid new more (RowAfter mid once row) → HasRow new more (TimesKeys d 12 (suc n) i)
  times_next start mid new once row more i n one longer before m =
      row_as new more (RowAfter mid once row) (TimesKeys d 12 (suc n) i) m.has
      (row_times d mid once row i n (row_stays start mid once (InKeys d 12 i) longer one) before)

  stable_at :
      (tables : List (List ℕ)) (row : List ℕ) (i n : ℕ) → HasRow tables row (TimesKeys d 12 n i)
      → HasRow tables row (TimesKeys d 12 (suc n) i) → IsStable d i n
  stable_at tables row i n these those = λ o word mark low. (
    (λ h.
        let is = times_word d h in
        (((those.keys o low).keys word mark is).0 (((these.keys o low).keys word mark is).1 h))),
    (λ h.
        let is = times_word d h in
        (((these.keys o low).keys word mark is).0 (((those.keys o low).keys word mark is).1 h))),
  )

  pub times_stand :
      (tables : List (List ℕ)) (row : List ℕ) (i n total : ℕ) → n ≤ total → HasRow tables row (TimesKeys d 12 n i)
      → HasRow tables row (TimesKeys d 12 (suc n) i)
      → HasRow tables row (TimesKeys d 12 total i)
  times_stand tables row i n total few these those =
      let all : (total - n) + n ≡ total = omega arith in
      let stable = stable_at tables row i n these those in
      let P : ℕ → Type 0 = λ k. HasRow tables row (TimesKeys d 12 k i) in
      subst P all
      (row_as tables row (TimesKeys d 12 n i) (TimesKeys d 12 ((total - n) + n) i) these
      (λ o word mark low is.
      let s = stable_for_ever d i n (total - n) stable o word mark low in
      (s.1, s.0)))

  -- ---- parts one after another

  pub rowed_stays : (old new rows : List (List ℕ)) (i : ℕ) → IsMore old new → IsRowed d old rows i → IsRowed d new rows i
  rowed_stays old new rows i more (row, at, has) = (row, at, row_stays old new row (InKeys d 12 i) more has)

  pub parts_next :
      (start mid new : List (List ℕ)) (first row more : List ℕ) (i : ℕ) (parts : List ℕ)
      → HasRow mid first (InKeys d 12 i) → Makes start mid row (PartsKeys d 12 parts)
      → Makes mid new more (RowAfter mid first row) → Makes start new more (PartsKeys d 12 (i ∷ parts))
  parts_next start mid new first row more i parts one before m = record {
    more = more_then start mid new before.more m.more;
    has = row_as new more (RowAfter mid first row) (PartsKeys d 12 (i ∷ parts)) m.has (row_parts d mid first row i parts one before.has);
  }

  -- ---- all nodes

  pub node_row :
      (tables : List (List ℕ)) (row : List ℕ) (i : ℕ) (n : Node) → slice_get d.nodes i ≡ Some n
      → HasRow tables row (NodeKeys d 12 n) → HasRow tables row (InKeys d 12 i)
  node_row tables row i n at has =
      row_as tables row (NodeKeys d 12 n) (InKeys d 12 i) has (λ o word mark low is. ((λ h. keys_at n at h), (λ h. as_keys at h)))

  pub rowed_more :
      (tables new rows : List (List ℕ)) (i : ℕ) (row : List ℕ) → length rows ≡ length d.nodes → IsMore tables new → HasRow new row (InKeys d 12 i)
      → ((j : ℕ) → i < j → j < length d.nodes → IsRowed d tables rows j) → (j : ℕ) → i ≤ j → j < length d.nodes → IsRowed d new (set rows i row) j
  rowed_more tables new rows i row same more has later j low high =
      elim (cases_order i j) [
        | inl here ↦
            let inside : j < length rows = omega arith in
            let P : ℕ → Type 0 = λ k. IsRowed d new (set rows k row) j in
            let Q : ℕ → Type 0 = λ k. HasRow new row (InKeys d 12 k) in
            subst P (sym here) (
              row,
              slice_get-get_or (set rows j row) j row (omega (arith, length-set rows j row))
                  ∙ ap (λ s. Some s) (get_or-set_same rows j row row inside),
              subst Q here has,
            )
        | inr apart ↦ elim apart [
          | inl after ↦
              let k = later j after high in
              let differ : j ≢ i = omega (arith, after) in (
                k.0,
                slice_get-get_or (set rows i row) j k.0 (omega (arith, length-set rows i row))
                    ∙ ap (λ s. Some s) (get_or-set_other rows i j row k.0 differ ∙ get_or_from_slice_get rows j k.0 k.0
                    k.1),
                row_stays tables new k.0 (InKeys d 12 j) more k.2,
              )
          | inr before ↦ absurd (omega (arith, low, before))
        ]
      ]

  -- ---- what is kept of a description

  pub keys_of : (sets : List NodeSets) (tables rows : List (List ℕ))
      → HasRows d tables rows → IsKeysOf d (record { sets = sets; tables = tables; rows = rows })
  keys_of sets tables rows has = record {
    same = has.same;
    keys = λ i o inside low.
        let r = has.rowed i inside in
        let P : List ℕ → Type 0 = λ row. KeysAre (table_of tables (get_or row o 0)) (InKeys d 12 i o) in
        subst P (sym (get_or_from_slice_get rows i r.0 [] r.1)) (r.2.keys o low).keys;
  }

  pub rows_are : (tables rows : List (List ℕ)) → HasRows d tables rows → AreRows (length tables) rows
  rows_are tables rows has = λ i row at.
      let inside = slice_get_within rows i row at in
      let size = has.same in
      let r = has.rowed i (omega arith) in
      let same : r.0 ≡ row = cc (at, r.1) in
      let P : List ℕ → Type 0 = λ l. IsRow (length tables) l in
      subst P same (record { eight = r.2.eight; within = λ o low. (r.2.keys o low).within })

  -- ---- by the kind of node

  pub gives_as :
      {E : Type 0} (r : Result (List ℕ) E) (old new : List (List ℕ)) (P : ℕ → List ℕ → Bool → Type 0) (node kind : Node) → node ≡ kind
      → ((o : ℕ) (word : List ℕ) (mark : Bool) → P o word mark ↔ NodeKeys d 12 kind o word mark)
      → IfOk r (λ row. Makes old new row P) → IfOk r (λ row. Makes old new row (NodeKeys d 12 node))
  gives_as r old new P node kind is same h =
      IfOk-weaker r (λ row. Makes old new row P) (λ row. Makes old new row (NodeKeys d 12 node))
      (λ row m.
      let Q : Node → Type 0 = λ k. Makes old new row (NodeKeys d 12 k) in
      subst Q (sym is) (makes_as old new row P (NodeKeys d 12 kind) m (λ o word mark low is_word. same o word mark)))
      h

  pub gives_node :
      {E : Type 0} (r : Result (List ℕ) E) (old new : List (List ℕ)) (node kind : Node) → node ≡ kind
      → IfOk r (λ row. Makes old new row (NodeKeys d 12 kind)) → IfOk r (λ row. Makes old new row (NodeKeys d 12 node))
  gives_node r old new node kind is h = gives_as r old new (NodeKeys d 12 kind) node kind is (λ o word mark. ((λ k. k), (λ k. k))) h

  pub rowed_parts : (tables rows : List (List ℕ)) (node kind : Node)
      → node ≡ kind → AreRowed d tables rows (parts_of node) → AreRowed d tables rows (parts_of kind)
  rowed_parts tables rows node kind is h = let P : Node → Type 0 = λ n. AreRowed d tables rows (parts_of n) in subst P is h

  pub rowed_part : (tables rows : List (List ℕ)) (node kind : Node) (p : ℕ) → node ≡ kind → parts_of kind ≡ p ∷ []
      → AreRowed d tables rows (parts_of node) → IsRowed d tables rows p
  rowed_part tables rows node kind p is one h =
      let P : List ℕ → Type 0 = λ parts. AreRowed d tables rows parts in
      subst P one (rowed_parts tables rows node kind is h) 0 p refl
