-- The table of a choice, from the keys of its alternatives one after another.
use Rattle.std.proofs.Common.{◌≡◌, ℕ, ◌+◌, ◌-◌, ◌<◌, ◌≤◌, ◌⊎◌, inl, inr, true, false, List, [], ◌∷◌, ◌++◌, length}
use Rattle.std.proofs.Common.{take, drop, refl, sym, ◌∙◌, ap, subst, arith, length-append, append_assoc}
use Rattle.std.proofs.Common.{take-append-drop, Option, Some, None}
use Rattle.std.proofs.lemmas.List.{length-take, take_all, append-nil}
use Rattle.std.specs.Prelude.{IsTrue}
use Rattle.std.proofs.lemmas.Nat.{pow_pos}
use Rattle.std.proofs.lemmas.Option.{slice_get_within}
use Rattle.csn_desc.specs.Nodes.{DescV}
use Rattle.csn_look.specs.declared.key_table.Begins.{Begins}
use Rattle.csn_look.specs.declared.key_table.Begins.TheVariants as answer
use Rattle.csn_look.specs.KeyMarks as marks
use Rattle.csn_look.specs.Keys.{InKeys}
use Rattle.csn_look.specs.Full.{IsFull}
use Rattle.csn_look.proofs.Basics.Places.{word_take, Numbered, numbered}
use Rattle.csn_look.proofs.Tables.Products.{word_join}
use Rattle.csn_claims.proofs.Pieces.{begun_both}
use Rattle.csn_certify.specs.declared.pick_table.Entry.{Entry}
use Rattle.csn_certify.specs.declared.pick_table.Entry.TheVariants.{Refuse, Wait, Take}
use Rattle.csn_certify.specs.Conflicts.{IsNull, IsBegunBy}
use Rattle.csn_certify.specs.Picks.{BeginsWithKey, BeginsKey}
use Rattle.csn_certify.specs.Choosing.{IsNone, BeginsKeyOf, StandsTo, AreWithoutKey}
use Rattle.csn_certify.specs.PickTables.{entry_of, Tells}
use Rattle.csn_certify.specs.Filling.{started, IsDeep, IsFilled, with_key, with_full, with_start, with_none}
use Rattle.csn_certify.specs.Filling.{FillsUnder, AreEmpty, HasMarks, IsFullOf, AreDeep, AreApart}
use Rattle.csn_certify.proofs.FillingFacts.{begins_itself, full_on, full_begins, full_fresh}
use Rattle.csn_certify.proofs.MoreHeld.{key_on}
use Rattle.csn_certify.proofs.Choices as choice
use Rattle.csn_certify.proofs.Choices.{Among}

module _ (d : DescV) (parts : List ℕ) (octet : ℕ) where
  -- ---- how many bits are looked at

  pub deep_none : (width : ℕ) → AreDeep d parts octet 0 width
  deep_none width held j is long begins none = inl (omega arith)

  pub deep_null : (count width : ℕ) → IsNone d parts count → AreDeep d parts octet count width → AreDeep d parts octet (count + 1) width
  deep_null count width null deep held j is long begins none =
      elim (deep held j is long begins none) [
        | inl late ↦ inl (choice.later d parts octet held (λ k. BeginsKeyOf d parts octet held k)
            (choice.begins_none_of_none d parts octet held null) begins late)
        | inr full ↦ inr full
      ]

  pub deep_more : (count width depth more : ℕ) (table word : List ℕ) → word ≡ [] → HasMarks d parts octet count table
      → IsDeep table word depth → width ≤ more → depth ≤ more → AreDeep d parts octet count width
      → AreDeep d parts octet (count + 1) more
  deep_more count width depth more table word empty has below a b deep held j is long begins none =
      elim (deep held j is (omega (arith, a, long)) begins none) [
        | inl late ↦ by_place (either count j late)
        | inr full ↦ inr full
      ]
    where
      either : (m n : ℕ) → m ≤ n → (n ≡ m) ⊎ (m + 1 ≤ n)
      either m n le = grind arith

      at_count : BeginsKeyOf d parts octet held count → ¬ BeginsWithKey d 12 parts octet held count → (bits : ℕ) × IsFullOf d parts octet count held bits
      at_count its never =
          let no_key : ¬ marks.BeginsWithKey table held =
          λ key. never (choice.with_key d parts octet held count has.part table has.is_part has.are has.real is
          key) in
          let full = below held is (held, ap (λ l. l ++ held) (sym empty)) (omega (arith, b, long)) no_key
          (choice.starts_key d parts octet held count has.part table has.is_part has.are its) in
          (full.0, record { marks = table; has = has; none = no_key; full = full.1 })

      by_place : (j ≡ count) ⊎ (count + 1 ≤ j) → (count + 1 ≤ j) ⊎ ((bits : ℕ) × IsFullOf d parts octet j held bits)
      by_place (inr higher) = inl higher
      by_place (inl same) =
          let full = at_count (subst (λ (k : ℕ). BeginsKeyOf d parts octet held k) same begins)
          (subst (λ (k : ℕ). ¬ BeginsWithKey d 12 parts octet held k) same none) in
          inr (full.0, subst (λ (k : ℕ). IsFullOf d parts octet k held full.0) (sym same) full.1)

  -- two tables of one alternative have the same keys
  same_keys : (j : ℕ) (table other word : List ℕ) → HasMarks d parts octet j table → HasMarks d parts octet j other
      → marks.IsWord word → marks.IsKeyOf other word → marks.IsKeyOf table word
  same_keys j table other word has its is key =
      let is_part = has.is_part in
      let also = its.is_part in
      let same : its.part ≡ has.part = cc in
      let P : ℕ → Type 0 = λ p. InKeys d 12 p octet word key.0 in
      (key.0, (has.are word key.0 is).1 (subst P same ((its.are word key.0 is).0 key.1)))

  full_same : (j bits : ℕ) (table other word : List ℕ) → HasMarks d parts octet j table
      → HasMarks d parts octet j other → marks.IsWord word → IsFull other word bits → IsFull table word bits
  full_same j bits table other word has its is full = record {
    more = full.more;
    short = full.short;
    full = λ back b size. same_keys j table other (word ++ back) has its (word_join word back is b (omega (arith, size, full.short))) (full.full back b size);
    none = λ back b size key. full.none back b size (same_keys j other table (word ++ back) its has
        (word_join word back is b (omega (arith, size, full.short))) key);
  }

  -- and so of each alternative by its table
  pub deep_table : (j width : ℕ) (table word : List ℕ) → j < length parts → word ≡ [] → HasMarks d parts octet j table
      → AreDeep d parts octet (length parts) width → IsDeep table word width
  deep_table j width table word inside empty has deep held is begun long none start =
      elim (deep held j is long (choice.begins_key d parts octet held j has.part table has.is_part has.are start)
      (λ key. choice.no_key_of d parts octet held j has.part table has.is_part has.are none key)) [
        | inl late ↦ absurd (omega (arith, late, inside))
        | inr full ↦ (full.0, full_same j full.0 table full.1.marks held has full.1.has is full.1.full)
      ]

  -- ---- bits behind which all words of one size are keys of an alternative

  -- one of these words
  record OneKey (j : ℕ) (held : List ℕ) : Type 0 where
    pub back : List ℕ
    pub word : marks.IsWord (held ++ back)
    pub some : 0 < length back
    pub key : BeginsWithKey d 12 parts octet (held ++ back) j
    pub start : BeginsKeyOf d parts octet held j

  one_key : (j bits : ℕ) (held : List ℕ) → marks.IsWord held → IsFullOf d parts octet j held bits → OneKey j held
  one_key j bits held is all = by n.word refl
    where
      n : Numbered (bits - length held) 0
      n = numbered (bits - length held) 0 (pow_pos (bits - length held))

      whole : marks.IsWord (held ++ n.word)
      whole = word_join held n.word is n.bits (omega (arith, n.many, all.full.more, all.full.short))

      key : marks.IsKeyOf all.marks (held ++ n.word)
      key = all.full.full n.word n.bits (omega (arith, n.many, all.full.more))

      at : marks.IsWord (held ++ n.word) → marks.BeginsWithKey all.marks (held ++ n.word) → BeginsWithKey d 12 parts octet (held ++ n.word) j
      at word begins = choice.with_key d parts octet (held ++ n.word) j all.has.part all.marks all.has.is_part all.has.are all.has.real word begins

      by : (back : List ℕ) → back ≡ n.word → OneKey j held
      by [] e =
          let same : held ++ n.word ≡ held = ap (λ l. held ++ l) (sym e) ∙ append-nil held in
          absurd (all.none (subst (λ (l : List ℕ). marks.BeginsWithKey all.marks l) same (begins_itself all.marks (held ++ n.word) key)))
      by (x ∷ back) e =
          let same : held ++ n.word ≡ held ++ x ∷ back = ap (λ l. held ++ l) (sym e) in
          let size = ap length e in
          record {
            back = n.word;
            word = whole;
            some = omega (arith, size);
            key = at whole (begins_itself all.marks (held ++ n.word) key);
            start =
                choice.begins_key d parts octet held j all.has.part all.marks all.has.is_part all.has.are (record {
                  next = x;
                  back = back;
                  whole = key.0;
                  word = subst (λ (l : List ℕ). marks.IsWord l) same whole;
                  key = subst (λ (l : List ℕ). IsTrue (marks.has_key all.marks l key.0)) same key.1;
                });
          }

  begun_by_full : (j bits : ℕ) (held : List ℕ) → marks.IsWord held → IsFullOf d parts octet j held bits → BeginsKeyOf d parts octet held j
  begun_by_full j bits held is all = (one_key j bits held is all).start

  -- so it is with what goes on from the bits and is shorter
  full_of_on : (j bits : ℕ) (front held : List ℕ) → marks.IsWord held → IsBegunBy held front → length held < bits
      → IsFullOf d parts octet j front bits → IsFullOf d parts octet j held bits
  full_of_on j bits front held is begun few all =
      record {
        marks = all.marks;
        has = all.has;
        none = full_fresh all.marks front held bits is begun all.full all.none few;
        full = full_on all.marks front held bits is begun all.full (omega (arith, few));
      }

  -- ---- the entries of the first few alternatives

  -- of none of the first few alternatives all words of one size behind the held bits are keys
  abbrev pub ArePartly : ℕ → List ℕ → Type 0
  ArePartly count held = (j bits : ℕ) → j < count → ¬ IsFullOf d parts octet j held bits

  partly_more : (count : ℕ) (held : List ℕ) → ArePartly count held → ((bits : ℕ) → ¬ IsFullOf d parts octet count held bits) → ArePartly (count + 1) held
  partly_more count held before last j bits less full = elim (either j count less) [
    | inl few ↦ before j bits few full
    | inr same ↦ last bits (subst (λ (k : ℕ). IsFullOf d parts octet k held bits) same full)
  ]
    where
      either : (m n : ℕ) → m < n + 1 → (m < n) ⊎ (m ≡ n)
      either m n le = grind arith

  -- an alternative that takes no bits is none of which this holds
  partly_null : (count bits : ℕ) (held : List ℕ) → IsNone d parts count → ¬ IsFullOf d parts octet count held bits
  partly_null count bits held null full = choice.not_none d parts octet held full.has.is_part full.has.real null

  -- `none` is the one of the first few that takes no bits, where there is one
  pub record NonesTold (count : ℕ) (none : Option ℕ) : Type 0 where
    pub is_none : (j : ℕ) → none ≡ Some j → IsNone d parts j
    pub no_none : none ≡ None → (j : ℕ) → IsNone d parts j → count ≤ j

  pub nones_first : NonesTold 0 None
  nones_first = record { is_none = λ j is. absurd (cc); no_none = λ is j null. omega arith }

  pub nones_null : (count : ℕ) → IsNone d parts count → NonesTold (count + 1) (Some count)
  nones_null count null = record {
    is_none = λ j is. subst (λ (k : ℕ). IsNone d parts k) (of_some is) null;
    no_none = λ is. absurd (cc);
  }
    where
      of_some : {a b : ℕ} → Some a ≡ Some b → a ≡ b
      of_some e = cc

  pub nones_marks : (count : ℕ) (which : Option ℕ) (table : List ℕ) → HasMarks d parts octet count table → NonesTold count which → NonesTold (count + 1) which
  nones_marks count which table has told = record {
    is_none = told.is_none;
    no_none = λ is j null. choice.later d parts octet [] (λ k. IsNone d parts k)
        (choice.not_none d parts octet [] has.is_part has.real) null (told.no_none is j null);
  }

  -- the entry tells how the held bits stand to the first few alternatives
  abbrev pub TellsOf : ℕ → Option ℕ → List ℕ → Entry → Type 0
  TellsOf count none held Refuse = Among d parts octet held count none false
  TellsOf count none held Wait = Among d parts octet held count none true × ArePartly count held
  TellsOf count _ held (Take bits j) = ((bits ≤ length held) × BeginsWithKey d 12 parts octet held j) ⊎ IsFullOf d parts octet j held bits

  abbrev pub AllTell : ℕ → Option ℕ → ℕ → List Entry → Type 0
  AllTell count none width entries =
      (held : List ℕ) → marks.IsWord held → length held ≤ width → TellsOf count none held (entry_of entries held)

  pub all_first : (width : ℕ) (entries : List Entry) → AreEmpty width entries → AllTell 0 None width entries
  all_first width entries empty held is short =
      subst (λ (e : Entry). TellsOf 0 None held e) (sym (empty.refuse held)) (choice.among_first d parts octet held)

  -- one more alternative, which takes no bits
  pub all_null : (count width : ℕ) (none : Option ℕ) (entries : List Entry)
      → IsNone d parts count → AllTell count none width entries → AllTell (count + 1) (Some count) width entries
  all_null count width none entries here all held is short = by_entry (entry_of entries held) (all held is short)
    where
      by_entry : (e : Entry) → TellsOf count none held e → TellsOf (count + 1) (Some count) held e
      by_entry Refuse h = choice.among_none d parts octet held h here
      by_entry Wait h = (choice.among_none d parts octet held h.0 here, partly_more count held h.1 (λ bits. partly_null count bits held here))
      by_entry (Take bits j) h = h

  -- one more, whose keys have filled the entries
  pub all_marks : (count width : ℕ) (none : Option ℕ) (table : List ℕ) (old new : List Entry)
      → HasMarks d parts octet count table → (word : List ℕ)
      → word ≡ [] → FillsUnder word width (IsFilled table count) old new → AllTell count none width old
      → AllTell (count + 1) none width new
  all_marks count width none table old new has word empty fills all held is short =
      by_filled (entry_of old held) (entry_of new held) (all held is short) ((fills held is short).0 (held, ap (λ l. l ++ held) (sym empty)))
    where
      stands : (told : Begins) → (IsNull d has.part → ⊥) → marks.IsWord held → marks.IsBeginning told table held
          → StandsTo d parts octet held count (Some told)
      stands = choice.standing d parts octet held count has.part table has.is_part has.are

      partly : ((bits : ℕ) → ¬ IsFull table held bits) → (bits : ℕ) → ¬ IsFullOf d parts octet count held bits
      partly none bits full = none bits (full_same count bits table full.marks held has full.has is full.full)

      -- where no key is begun, none of the first few alternatives has all
      none_begun : Among d parts octet held count none false → ArePartly count held
      none_begun h j bits less full = let late = h.begins_not refl j (begun_by_full j bits held is full) in absurd (omega (arith, late, less))

      by_start : (e : Entry) → TellsOf count none held e → ¬ marks.BeginsWithKey table held
          → marks.StartsKey table held → ((bits : ℕ) → ¬ IsFull table held bits)
          → TellsOf (count + 1) none held (started e)
      by_start Refuse h no_key start part =
          let s = stands answer.Proper has.real is (no_key, start) in
          (choice.among_begun d parts octet held h s.0 s.1 s.2, partly_more count held (none_begun h) (partly part))
      by_start Wait h no_key start part =
          let s = stands answer.Proper has.real is (no_key, start) in
          (choice.among_begun d parts octet held h.0 s.0 s.1 s.2, partly_more count held h.1 (partly part))
      by_start (Take bits j) h no_key start part = h

      by_none : (e : Entry) → TellsOf count none held e → ¬ marks.BeginsWithKey table held → ¬ marks.StartsKey table held → TellsOf (count + 1) none held e
      by_none Refuse h no_key no_start = let s = stands answer.Neither has.real is (no_key, no_start) in choice.among_neither d parts octet held h s.0 s.1 s.2
      by_none Wait h no_key no_start =
          let s = stands answer.Neither has.real is (no_key, no_start) in
          (choice.among_neither d parts octet held h.0 s.0 s.1 s.2, partly_more count held h.1 (λ bits full. s.2 (begun_by_full count bits held is full)))
      by_none (Take bits j) h no_key no_start = h

      by_filled : (e f : Entry) → TellsOf count none held e → IsFilled table count held e f → TellsOf (count + 1) none held f
      by_filled e f h (with_key bits key size same) =
          subst (λ (x : Entry). TellsOf (count + 1) none held x) (sym same) (inl (size, stands answer.Key has.real is key))
      by_filled e f h (with_full bits no_key full same) =
          subst (λ (x : Entry). TellsOf (count + 1) none held x) (sym same) (inr (record { marks = table; has = has; none = no_key; full = full }))
      by_filled e f h (with_start no_key start part same) = subst (λ (x : Entry). TellsOf (count + 1) none held x) (sym same) (by_start e h no_key start part)
      by_filled e f h (with_none no_key no_start same) = subst (λ (x : Entry). TellsOf (count + 1) none held x) (sym same) (by_none e h no_key no_start)

  -- ---- bits that go on

  module _ (held front : List ℕ) (begun : IsBegunBy held front) where
    begins_back : BeginsKey d 12 parts octet held → BeginsKey d 12 parts octet front
    begins_back h =
        let size = ap length begun.1 in
        let more = h.not_all in
        record {
          j = h.j;
          own = h.own;
          begins = (begun.0 ++ h.begins.0, h.begins.1 ∙ ap (λ l. l ++ h.begins.0) begun.1 ∙ append_assoc front begun.0 h.begins.0);
          not_all = omega (arith, size, more, length-append front begun.0);
        }

    key_back : {j : ℕ} → BeginsWithKey d 12 parts octet held j → BeginsWithKey d 12 parts octet front j ⊎ BeginsKey d 12 parts octet front
    key_back {j} h = by_order (begun_both h.word h.begins.0 front begun.0 [] [] {b = held} {c = held} h.begins.1 begun.1 refl)
      where
        its : (rest : List ℕ) → front ≡ h.word ++ rest → BeginsWithKey d 12 parts octet front j
        its rest e = record { own = h.own; takes_bits = h.takes_bits; begins = (rest, e) }

        by_rest : (rest : List ℕ) → h.word ≡ front ++ rest → BeginsWithKey d 12 parts octet front j ⊎ BeginsKey d 12 parts octet front
        by_rest [] e = inl (its [] (sym (append-nil front) ∙ sym e ∙ sym (append-nil h.word)))
        by_rest (x ∷ rest) e =
            let size = ap length e in
            inr (record { j = j; own = h.own; begins = (x ∷ rest, e); not_all = omega (arith, size, length-append front (x ∷ rest)) })

        by_order : IsBegunBy h.word front ⊎ IsBegunBy front h.word → BeginsWithKey d 12 parts octet front j ⊎ BeginsKey d 12 parts octet front
        by_order (inl long) = by_rest long.0 long.1
        by_order (inr short) = inl (its short.0 short.1)

    -- what is refused stays so
    pub refuse_on : {none : Option ℕ} → AreWithoutKey d parts octet front none false → AreWithoutKey d parts octet held none false
    refuse_on h =
        record {
          no_key = λ j key. elim (key_back key) [ inl here ↦ h.no_key j here | inr start ↦ let is = h.begins.1 start in cc ];
          is_none = h.is_none;
          no_none = h.no_none;
          begins = ((λ is. absurd (cc)), (λ start. h.begins.1 (begins_back start)));
        }

  -- ---- the table

  -- no key begins bits behind which all words of one size are keys, since no key of another alternative begins them
  without_key : (j bits count : ℕ) (which : Option ℕ) (held : List ℕ) → marks.IsWord held → AreApart d parts octet
      → NonesTold count which → length parts ≤ count → IsFullOf d parts octet j held bits
      → AreWithoutKey d parts octet held which true
  without_key j bits count which held is apart told all full =
      let one = one_key j bits held is full in
      record {
        no_key = λ k key.
            let same : k ≡ j = apart (held ++ one.back) k j (key_on d 12 (one.back, refl) key) one.key in
            choice.no_key_of d parts octet held j full.has.part full.marks full.has.is_part full.has.are full.none
            (subst (λ (i : ℕ). BeginsWithKey d 12 parts octet held i) same key);
        is_none = told.is_none;
        no_none = λ is_none i null. let late = told.no_none is_none i null in let inside =
            slice_get_within parts i null.part null.is_part in omega (arith, late, inside, all);
        begins = ((λ is_begun. one.start.key), (λ start. refl));
      }

  pub table_done : (looked count width : ℕ) (none : Option ℕ) (entries : List Entry)
      → AreApart d parts octet → NonesTold count none → AreDeep d parts octet looked width → length parts ≤ looked
      → length parts ≤ count → AllTell count none width entries → (held : List ℕ)
      → marks.IsWord held → Tells d parts octet held none (entry_of entries (take width held))
  table_done looked count width none entries apart told deep whole_looked all tells held is = by_entry (entry_of entries front) (tells front is_front short)
    where
      front : List ℕ
      front = take width held

      is_front : marks.IsWord front
      is_front = word_take width held is

      short : length front ≤ width
      short = let size = length-take width held in omega (arith, size)

      begun : IsBegunBy held front
      begun = (drop width held, sym (take-append-drop width held))

      whole : length held ≤ width → held ≡ front
      whole few = sym (take_all width held few)

      full : width < length held → length front ≡ width
      full many = let size = length-take width held in omega (arith, size, many)

      by_size : (length held ≤ width) ⊎ (width < length held) → Among d parts octet front count none true
          → ArePartly count front → AreWithoutKey d parts octet held none true
      by_size (inl few) h partly = subst (λ (l : List ℕ). AreWithoutKey d parts octet l none true) (sym (whole few))
          (choice.among_all d parts octet front h all)
      by_size (inr many) h partly =
          let a = choice.among_all d parts octet front h all in
          let start = a.begins.0 refl in
          let size = full many in
          let inside = slice_get_within parts start.j start.part start.is_part in
          elim (deep front start.j is_front (omega (arith, size)) (record { key = start; its = refl }) (a.no_key start.j)) [
            | inl late ↦ absurd (omega (arith, late, inside, whole_looked))
            | inr found ↦ absurd (partly start.j found.0 (omega (arith, inside, all)) found.1)
          ]

      either : (m n : ℕ) → (m ≤ n) ⊎ (n < m)
      either m n = grind arith

      by_take : (j bits : ℕ) → ((bits ≤ length front) × BeginsWithKey d 12 parts octet front j)
          ⊎ IsFullOf d parts octet j front bits → Tells d parts octet held none (Take bits j)
      by_take j bits (inl h) =
          let size = ap length begun.1 in
          let less = h.0 in (
            (λ enough. key_on d 12 begun h.1),
            (λ few. absurd (omega (arith, size, less, few, length-append front begun.0))),
          )
      by_take j bits (inr all_keys) = (
        (λ enough. choice.with_key d parts octet held j all_keys.has.part all_keys.marks all_keys.has.is_part
            all_keys.has.are all_keys.has.real is
            (full_begins all_keys.marks front held bits is begun all_keys.full enough)),
        (λ few. without_key j bits count none held is apart told all (full_of_on j bits front held is begun few all_keys)),
      )

      by_entry : (e : Entry) → TellsOf count none front e → Tells d parts octet held none e
      by_entry Refuse h = refuse_on held front begun (choice.among_all d parts octet front h all)
      by_entry Wait h = by_size (either (length held) width) h.0 h.1
      by_entry (Take bits j) h = by_take j bits h
