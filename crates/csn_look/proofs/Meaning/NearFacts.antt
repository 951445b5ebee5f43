-- Each well-formed node has a key at each octet position, and bits that it follows begin with a key, or are the
-- beginning of one.
use Rattle.std.proofs.Common.{◌≡◌, ℕ, zero, suc, ◌+◌, ◌*◌, ◌%◌, Bool, true, false, List, [], ◌∷◌, ◌++◌, length, take}
use Rattle.std.proofs.Common.{drop, take-append-drop, refl, sym, ◌∙◌, ap, subst, arith, append_assoc, append-nil}
use Rattle.std.proofs.Common.{length-append, inl, inr, Some, slice_get}
use Rattle.std.specs.Prelude.{replicate}
use Rattle.std.proofs.lemmas.Bool.Decides.{leb_tells}
use Rattle.std.proofs.lemmas.List.{length-replicate}
use Rattle.csn_desc.specs.declared.symbol.Symbol.TheVariants.{Low}
use Rattle.csn_desc.specs.declared.node.Count.{Count}
use Rattle.csn_desc.specs.declared.node.Count.TheVariants.{Fixed, Counted}
use Rattle.csn_desc.specs.declared.node.Node.{Node}
use Rattle.csn_desc.specs.declared.node.Node.TheVariants.{Lits, Spare, Pad, Null, Field, Rest, Seq, Choice, Times, Many, Trunc, Window, Named}
use Rattle.csn_desc.specs.Nodes.{DescV, parts_of}
use Rattle.csn_desc.specs.Spelled.{spelled}
use Rattle.csn_desc.specs.Values.{Values, count_of}
use Rattle.csn_desc.specs.Follows.{NFollow, NodeFollows, PartsFollow, TimesFollow, follows_at, follows_whole}
use Rattle.csn_desc.specs.Follows.{follows_lits, follows_spare, follows_pad, follows_field, follows_seq}
use Rattle.csn_desc.specs.Follows.{follows_choice, follows_times, follows_many, follows_trunc, follows_window}
use Rattle.csn_desc.specs.Follows.{follows_named, parts_here, parts_later, times_here, times_later}
use Rattle.csn_desc.specs.Formed.{Formed, PartsFormed, formed, formed_end, formed_next}
use Rattle.csn_desc.proofs.Nodewise.{held_along}
use Rattle.csn_desc.proofs.Splits.{splits, inside, behind}
use Rattle.csn_desc.proofs.BitFacts.{spelled_is_spare}
use Rattle.csn_look.specs.Keys.{Cut, kept, cut, InKeys, NodeKeys, PartsKeys, TimesKeys, keys_lits}
use Rattle.csn_look.specs.Keys.{keys_spare, keys_field, keys_pad, keys_null, keys_rest, keys_many, keys_trunc}
use Rattle.csn_look.specs.Keys.{keys_window, keys_counted_field, keys_counted_times, keys_seq, keys_times}
use Rattle.csn_look.specs.Keys.{keys_choice, keys_named, parts_none, parts_cut, parts_whole, times_none, times_cut}
use Rattle.csn_look.specs.Keys.{times_whole}
use Rattle.csn_look.specs.Beginnings.{Begun, Near, near_begun, near_within}
use Rattle.csn_look.proofs.Meaning.LeastSets.{keys_at}
use Rattle.csn_look.proofs.Meaning.KeyFacts.{keys, node_keys, as_key, unread, octet_word, marked_key, whole_word, cut_first, both_words}
use Rattle.csn_bits.proofs.Packing.{IsBits-zeros}

-- ---- there is a key

pub record Found (P : List ℕ → Bool → Type 0) : Type 0 where
  pub word : List ℕ
  pub mark : Bool
  pub key : P word mark

found_of : {most : ℕ} {P : List ℕ → Bool → Type 0} (w : List ℕ) (whole : Bool) → ((x : List ℕ) (mark : Bool) → Cut most w whole x mark → P x mark) → Found P
found_of {most = most} w whole make =
    elim (leb_tells (length w) most) [
      | inl short ↦ record { word = w; mark = whole; key = make w whole (kept short.1 refl refl) }
      | inr long ↦ record { word = take most w; mark = false; key = make (take most w) false (cut long.1 refl refl) }
    ]

found_as : {P Q : List ℕ → Bool → Type 0} → ((x : List ℕ) (mark : Bool) → P x mark → Q x mark) → Found P → Found Q
found_as make h = record { word = h.word; mark = h.mark; key = make h.word h.mark h.key }

nothing_read : {P : List ℕ → Bool → Type 0} (mark : Bool) → P [] mark → Found P
nothing_read mark key = record { word = []; mark = mark; key = key }

module _ (d : DescV) (most : ℕ) where
  -- the key of a first part, with a key of the others behind it where it is whole
  parts_found : (i : ℕ) (parts : List ℕ) (o : ℕ) → Found (InKeys d most i o)
      → ((p : ℕ) → Found (PartsKeys d most parts p)) → Found (PartsKeys d most (i ∷ parts) o)
  parts_found i parts o h others = by_mark h.mark h.key
    where
      by_mark : (mark : Bool) → InKeys d most i o h.word mark → Found (PartsKeys d most (i ∷ parts) o)
      by_mark false key = record { word = h.word; mark = false; key = parts_cut key refl }
      by_mark true key =
          let second = others ((o + length h.word) % 8) in
          found_of {most = most} (h.word ++ second.word) second.mark (λ x mark c. parts_whole h.word second.word second.mark key second.key c)

  turn_found : (n i o : ℕ) (h : Found (InKeys d most i o)) → Found (TimesKeys d most n i ((o + length h.word) % 8)) → Found (TimesKeys d most (suc n) i o)
  turn_found n i o h second = by_mark h.mark h.key
    where
      by_mark : (mark : Bool) → InKeys d most i o h.word mark → Found (TimesKeys d most (suc n) i o)
      by_mark false key = record { word = h.word; mark = false; key = times_cut n refl key refl }
      by_mark true key =
          found_of {most = most} (h.word ++ second.word) second.mark (λ x mark c. times_whole n refl h.word second.word second.mark key second.key c)

  times_found : (n i o : ℕ) → ((p : ℕ) → Found (InKeys d most i p)) → Found (TimesKeys d most n i o)
  times_found zero i o h = nothing_read true (times_none refl refl refl)
  times_found (suc n) i o h = turn_found n i o (h o) (times_found n i ((o + length (h o).word) % 8) h)

  field_found : (unit : ℕ) (count : Count) (o : ℕ) → Found (NodeKeys d most (Field unit count) o)
  field_found unit (Fixed n) o =
      found_of {most = most} (replicate (unit * n) 0) true (λ x mark c. keys_field (replicate (unit * n) 0)
      (length-replicate (unit * n) 0) (IsBits-zeros (unit * n)) c)
  field_found unit (Counted m field c) o = nothing_read false (keys_counted_field refl refl)

  repeat_found : (count : Count) (i o : ℕ) → ((p : ℕ) → Found (InKeys d most i p)) → Found (NodeKeys d most (Times count i) o)
  repeat_found (Fixed n) i o h = found_as (λ x mark key. keys_times key) (times_found n i o h)
  repeat_found (Counted m field c) i o h = nothing_read false (keys_counted_times refl refl)

  mutual
    -- a well-formed node has a key at each octet position
    pub has_key : {seen : List ℕ} {round i : ℕ} → Formed d.nodes seen round i → (o : ℕ) → Found (InKeys d most i o)
    has_key (formed (Lits run) at few head have room held) o = found_of {most = most} (spelled run o) true (λ x mark c. keys_at (Lits run) at (keys_lits c))
    has_key (formed (Spare s) at few head have room held) o =
        found_of {most = most} (spelled (s ∷ []) o) true
        (λ x mark c. keys_at (Spare s) at (keys_spare (spelled (s ∷ []) o) refl (spelled_is_spare d.reading s o)
        c))
    has_key (formed Pad at few head have room held) o =
        found_of {most = most} (spelled (Low ∷ []) o) false
        (λ x mark c. keys_at Pad at (keys_pad (spelled (Low ∷ []) o) refl (spelled_is_spare d.reading Low o) c))
    has_key (formed Null at few head have room held) o = nothing_read true (keys_at Null at (keys_null refl refl))
    has_key (formed (Field unit count) at few head have room held) o = found_as (λ x mark key. keys_at (Field unit count) at key) (field_found unit count o)
    has_key (formed Rest at few head have room held) o = nothing_read false (keys_at Rest at (keys_rest refl refl))
    has_key (formed (Seq parts) at few head have room held) o = found_as (λ x mark key. keys_at (Seq parts) at (keys_seq key)) (parts_have_key held o)
    has_key (formed (Choice []) at few head have room held) o = absurd (omega arith)
    has_key (formed (Choice (p ∷ ps)) at few head have room (formed_next first others)) o =
        found_as (λ x mark key. keys_at (Choice (p ∷ ps)) at (keys_choice 0 refl key)) (has_key first o)
    has_key (formed (Times count p) at few head have room (formed_next first others)) o =
        found_as (λ x mark key. keys_at (Times count p) at key) (repeat_found count p o (λ q. has_key first q))
    has_key (formed (Many p) at few head have room held) o = nothing_read false (keys_at (Many p) at (keys_many refl refl))
    has_key (formed (Trunc parts) at few head have room held) o = nothing_read false (keys_at (Trunc parts) at (keys_trunc refl refl))
    has_key (formed (Window unit count p) at few head have room held) o = nothing_read false (keys_at (Window unit count p) at (keys_window refl refl))
    has_key (formed (Named label p) at few head have room (formed_next first others)) o =
        found_as (λ x mark key. keys_at (Named label p) at (keys_named key)) (has_key first o)

    pub parts_have_key : {shows : Bool} {seen : List ℕ} {round : ℕ} {parts : List ℕ}
        → PartsFormed d.nodes shows seen round parts → (o : ℕ) → Found (PartsKeys d most parts o)
    parts_have_key formed_end o = nothing_read true (parts_none refl refl)
    parts_have_key (formed_next {i = i} {parts = parts} first others) o = parts_found i parts o (has_key first o) (λ p. parts_have_key others p)

-- ---- followed bits

near_as : {P Q : List ℕ → Bool → Type 0} {b : List ℕ} → ((x : List ℕ) (mark : Bool) → P x mark → Q x mark) → Near P b → Near Q b
near_as make (near_begun h) = near_begun (as_key make h)
near_as make (near_within {word = word} {mark = mark} rest key is) = near_within rest (make word mark key) is

none_left : (w m r : List ℕ) {b : List ℕ} → b ≡ w ++ m → w ≡ b ++ r → m ≡ []
none_left w [] r left right = refl
none_left w (x ∷ m) r {b = b} left right =
    let first = ap length left in
    let second = ap length right in
    absurd (omega (arith, length-append w (x ∷ m), length-append b r))

-- the first bits of bits that begin with a word
near_front : {P : List ℕ → Bool → Type 0} (b rest : List ℕ) {whole : List ℕ} → whole ≡ b ++ rest → Begun P whole → Near P b
near_front {P} b rest is h =
    elim (splits h.word h.rest b rest (sym h.begins ∙ is)) [
      | inside m p q ↦ near_within m h.key p
      | behind m p q ↦ near_begun (record {
        word = h.word;
        mark = h.mark;
        rest = m;
        key = h.key;
        begins = p;
        whole = λ yes. let over = h.whole yes in none_left h.word m rest p (sym (append-nil h.word) ∙ ap (λ l. h.word ++ l) (sym over) ∙ sym h.begins ∙ is);
      })
    ]

-- a word that the bits begin, or that begins them, cut
near_word : (most : ℕ) (w : List ℕ) (whole : Bool) (P : List ℕ → Bool → Type 0) (b rest : List ℕ)
    → w ≡ b ++ rest → ((x : List ℕ) (mark : Bool) → Cut most w whole x mark → P x mark) → Near P b
near_word most w whole P b rest is make =
    elim (leb_tells (length w) most) [
      | inl short ↦ near_within rest (make w whole (kept short.1 refl refl)) is
      | inr long ↦ near_front b rest is (record {
        word = take most w;
        mark = false;
        rest = drop most w;
        key = make (take most w) false (cut long.1 refl refl);
        begins = sym (take-append-drop most w);
        whole = λ yes. absurd (cc);
      })
    ]

-- ---- a part, and keys of what stands behind it

module _ (d : DescV) (most : ℕ) where
  near_first : {i : ℕ} (o : ℕ) (P : ℕ → List ℕ → Bool → Type 0) (Q : List ℕ → Bool → Type 0)
      → ((x : List ℕ) → InKeys d most i (o % 8) x false → Q x false)
      → ((w1 w2 : List ℕ) (rest : Bool) (x : List ℕ) (mark : Bool) → InKeys d most i (o % 8) w1 true → P
      ((o % 8 + length w1) % 8) w2 rest → Cut most (w1 ++ w2) rest x mark → Q x mark) → (b : List ℕ)
      → Near (InKeys d most i (o % 8)) b → ((p : ℕ) → Found (P p)) → Near Q b
  near_first {i} o P Q cuts wholes b (near_begun h) others = by_mark h.mark refl
    where
      by_mark : (mark : Bool) → h.mark ≡ mark → Near Q b
      by_mark false is =
          near_begun (record {
            word = h.word;
            mark = false;
            rest = h.rest;
            key =
                cuts h.word (marked_key d most h is);
            begins = h.begins;
            whole = λ yes. absurd (cc);
          })
      by_mark true is =
          let second = others ((o % 8 + length h.word) % 8) in
          let all = whole_word d most h is in
          near_word most (h.word ++ second.word) second.mark Q b second.word (ap (λ l. l ++ second.word) (sym all))
          (λ x mark c. wholes h.word second.word second.mark x mark (marked_key d most h is) second.key c)
  near_first {i} o P Q cuts wholes b (near_within {word = word} {mark = false} rest key is) others = near_within rest (cuts word key) is
  near_first {i} o P Q cuts wholes b (near_within {word = word} {mark = true} rest key is) others =
      let second = others ((o % 8 + length word) % 8) in
      near_word most (word ++ second.word) second.mark Q b (rest ++ second.word) (ap (λ l. l ++ second.word) is ∙ append_assoc b rest second.word)
      (λ x mark c. wholes word second.word second.mark x mark key second.key c)

  near_later : {i : ℕ} (o : ℕ) (P : ℕ → List ℕ → Bool → Type 0) (Q : List ℕ → Bool → Type 0)
      → ((x : List ℕ) → InKeys d most i (o % 8) x false → Q x false)
      → ((w1 w2 : List ℕ) (rest : Bool) (x : List ℕ) (mark : Bool) → InKeys d most i (o % 8) w1 true → P
      ((o % 8 + length w1) % 8) w2 rest → Cut most (w1 ++ w2) rest x mark → Q x mark) → (b1 b2 : List ℕ) {b : List ℕ}
      → b ≡ b1 ++ b2 → Begun (InKeys d most i (o % 8)) b1 → Near (P ((o + length b1) % 8)) b2 → Near Q b
  near_later {i} o P Q cuts wholes b1 b2 {b = b} is h others = by_mark h.mark refl
    where
      both : h.mark ≡ true → Near (P ((o + length b1) % 8)) b2 → Near Q b
      both full (near_begun second) =
          near_begun (both_words d most o P Q b1 b2 is h.word (whole_word d most h full) second
          (λ w2 rest x mark key c. wholes h.word w2 rest x mark (marked_key d most h full) key c))
      both full (near_within {word = word} {mark = mark} rest key more_is) =
          let all = whole_word d most h full in
          let here = octet_word d most o all (λ p. P p word mark) key in
          near_word most (h.word ++ word) mark Q b rest
          (ap (λ l. l ++ word) (sym all) ∙ ap (λ l. b1 ++ l) more_is ∙ sym (append_assoc b1 b2 rest) ∙ ap (λ l. l ++ rest) (sym is))
          (λ x last c. wholes h.word word mark x last (marked_key d most h full) here c)

      by_mark : (mark : Bool) → h.mark ≡ mark → Near Q b
      by_mark false part = near_begun (cut_first d most cuts b2 is h part)
      by_mark true full = both full others

  repeat_near : (count : Count) (v : Values) {n i : ℕ} (o : ℕ) (b : List ℕ)
      → count_of v count ≡ Some n → Near (TimesKeys d most n i o) b → Near (NodeKeys d most (Times count i) o) b
  repeat_near (Fixed k) v {n = n} {i = i} o b counts h =
      let same : k ≡ n = cc in
      let P : ℕ → Type 0 = λ n. Near (TimesKeys d most n i o) b in
      near_as (λ x mark key. keys_times key) (subst P (sym same) h)
  repeat_near (Counted m field c) v o b counts h = near_begun (unread b (keys_counted_times refl refl))

  -- a part of a well-formed node
  record PartFormed (round i : ℕ) : Type 0 where
    seen : List ℕ
    is : Formed d.nodes seen round i

  part_formed : {shows : Bool} {seen : List ℕ} {round : ℕ} {parts : List ℕ} (j i : ℕ)
      → PartsFormed d.nodes shows seen round parts → slice_get parts j ≡ Some i → PartFormed round i
  part_formed j i formed_end at = absurd (cc)
  part_formed {seen = seen} {round = round} zero i (formed_next {i = p} first others) at =
      let same : p ≡ i = cc in
      let P : ℕ → Type 0 = λ k. Formed d.nodes seen round k in
      record { seen = seen; is = subst P same first }
  part_formed (suc j) i (formed_next first others) at = part_formed j i others at

  mutual
    pub near_keys : {seen : List ℕ} {round i o : ℕ} {v : Values} {b : List ℕ}
        → Formed d.nodes seen round i → NFollow d i o v b → Near (InKeys d most i (o % 8)) b
    near_keys (formed n at few head have room held) (follows_at m is h) =
        let same : n ≡ m = cc in near_as (λ x mark key. keys_at m is key) (node_near (held_along d.nodes same held) h)

    node_near : {shows : Bool} {seen : List ℕ} {round o : ℕ} {n : Node} {v : Values} {b : List ℕ}
        → PartsFormed d.nodes shows seen round (parts_of n)
        → NodeFollows d n o v b → Near (NodeKeys d most n (o % 8)) b
    node_near held (follows_whole t h) = near_begun (node_keys d most h)
    node_near {b = b} held (follows_lits whole rest is h) = near_front b rest is (node_keys d most h)
    node_near {b = b} held (follows_spare whole rest is h) = near_front b rest is (node_keys d most h)
    node_near {b = b} held (follows_pad whole rest is h) = near_front b rest is (node_keys d most h)
    node_near {b = b} held (follows_field whole rest is h) = near_front b rest is (node_keys d most h)
    node_near held (follows_seq h) = near_as (λ x mark key. keys_seq key) (parts_near held h)
    node_near held (follows_choice {i = i} j at h) = near_as (λ x mark key. keys_choice j at key) (near_keys (part_formed j i held at).is h)
    node_near {o = o} {v = v} {b = b} (formed_next first others) (follows_times {count = count} n counts h) =
        repeat_near count v (o % 8) b counts (times_near first h)
    node_near {b = b} held (follows_many h) = near_begun (unread b (keys_many refl refl))
    node_near {b = b} held (follows_trunc h) = near_begun (unread b (keys_trunc refl refl))
    node_near {b = b} held (follows_window n counts few h) = near_begun (unread b (keys_window refl refl))
    node_near (formed_next first others) (follows_named h) = near_as (λ x mark key. keys_named key) (near_keys first h)

    pub parts_near : {shows : Bool} {seen : List ℕ} {round o : ℕ} {parts : List ℕ} {v : Values} {b : List ℕ}
        → PartsFormed d.nodes shows seen round parts → PartsFollow d parts o v b
        → Near (PartsKeys d most parts (o % 8)) b
    parts_near formed_end h = elim h [ ]
    parts_near {o = o} {b = b} (formed_next {i = i} {parts = parts} first others) (parts_here h) =
        near_first o (λ p x mark. PartsKeys d most parts p x mark) (PartsKeys d most (i ∷ parts) (o % 8))
        (λ x key. parts_cut key refl) (λ w1 w2 rest x mark key behind_it c. parts_whole w1 w2 rest key behind_it
        c) b (near_keys first h) (λ p. parts_have_key d most others p)
    parts_near {o = o} {b = b} (formed_next {i = i} {parts = parts} first others) (parts_later b1 b2 is h hs) =
        near_later o (λ p x mark. PartsKeys d most parts p x mark) (PartsKeys d most (i ∷ parts) (o % 8))
        (λ x key. parts_cut key refl) (λ w1 w2 rest x mark key behind_it c. parts_whole w1 w2 rest key behind_it
        c) b1 b2 is (keys d most h) (parts_near others hs)

    pub times_near : {seen : List ℕ} {round n i o : ℕ} {v : Values} {b : List ℕ}
        → Formed d.nodes seen round i → TimesFollow d n i o v b → Near (TimesKeys d most n i (o % 8)) b
    times_near {n = zero} first (times_here some h) = absurd (omega arith)
    times_near {n = suc m} {i = i} {o = o} {b = b} first (times_here some h) =
        near_first o (λ p x mark. TimesKeys d most m i p x mark) (TimesKeys d most (suc m) i (o % 8))
        (λ x key. times_cut m refl key refl)
        (λ w1 w2 rest x mark key behind_it c. times_whole m refl w1 w2 rest key behind_it c) b (near_keys first h)
        (λ p. times_found d most m i p (λ q. has_key d most first q))
    times_near {n = n} {i = i} {o = o} {b = b} first (times_later m over b1 b2 is h hs) =
        near_later o (λ p x mark. TimesKeys d most m i p x mark) (TimesKeys d most n i (o % 8))
        (λ x key. times_cut m over key refl)
        (λ w1 w2 rest x mark key behind_it c. times_whole m over w1 w2 rest key behind_it c) b1 b2 is
        (keys d most h) (times_near first hs)
