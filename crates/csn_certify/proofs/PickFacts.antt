-- What look-ahead answers is right: bits that lie ahead of a choice are those of the alternative that it takes, and
-- where it refuses there are none; and a free repetition goes on where it says so.
use Rattle.std.proofs.Common.{◌≡◌, ◌≢◌, ℕ, zero, suc, ◌%◌, ◌<◌, ◌≤◌, ◌⊎◌, inl, inr, Bool, true, false, List, [], ◌∷◌}
use Rattle.std.proofs.Common.{◌++◌, length, refl, sym, ◌∙◌, ap, subst, arith, append_assoc, append-nil, length-append}
use Rattle.std.proofs.Common.{Option, Some, None, slice_get}
use Rattle.csn_desc.specs.declared.node.Node.{Node}
use Rattle.csn_desc.specs.declared.node.Node.TheVariants.{Null, Choice, Many}
use Rattle.csn_desc.specs.TreeV.{TreeV, Trees}
use Rattle.csn_desc.specs.Nodes.{DescV, head_of, parts_of}
use Rattle.csn_desc.specs.Values.{Values}
use Rattle.csn_desc.specs.Means.{NMeans, ManyMean, means_null}
use Rattle.csn_desc.specs.Follows.{NFollow, NodeFollows, follows_whole}
use Rattle.csn_desc.specs.Formed.{shows_earlier, HasParts, Formed, PartsFormed, formed, IsDescription, FitWidths}
use Rattle.csn_desc.proofs.Nodewise.{follow_at, choice_formed}
use Rattle.csn_desc.proofs.Splits.{Splits, splits, inside, behind}
use Rattle.csn_desc.proofs.Placed.{node_placed}
use Rattle.csn_look.specs.Starts.{InStart}
use Rattle.csn_look.specs.Keys.{InKeys}
use Rattle.csn_look.specs.Reached.{Reached, InFollow}
use Rattle.csn_look.specs.Beginnings.{Near, near_begun, near_within}
use Rattle.csn_claims.proofs.Pieces.{order, equal_numbers, first_less, second_less, null_or, begun_both, some_bit, no_front}
use Rattle.csn_claims.proofs.FollowFacts.{stands_here}
use Rattle.csn_claims.proofs.Decisions.{null_bits}
use Rattle.csn_certify.specs.declared.conflict.Conflict.TheVariants.{TwoEmpty, NotFirm, Overlap, EmptyClash, LoopClash}
use Rattle.csn_certify.specs.Conflicts.{IsNull, IsBegunBy, two_empty, choice_not_firm, overlap, empty_clash, loop_clash, Certified}
use Rattle.csn_certify.specs.Picks.{BeginsWithKey, BeginsKey, StandsBehind, behind_bit, behind_end, TakesNone}
use Rattle.csn_certify.proofs.Here.{Here, Follow, Stands, nullable, starts, follows, many_start, keys, near_keys, has_key, key_start}

-- numbers are the same where it cannot be that they differ
pub same_number : (m j : ℕ) → (m ≢ j → ⊥) → m ≡ j
same_number m j h =
    elim (order m j) [
      | equal_numbers same ↦ same
      | first_less less ↦ absurd (h (λ same. absurd (omega arith)))
      | second_less less ↦ absurd (h (λ same. absurd (omega arith)))
    ]

either_way : {A B : Type 0} → A ⊎ B → B ⊎ A
either_way (inl a) = inr a
either_way (inr b) = inl b

octet-lt : (o : ℕ) → o % 8 < 8
octet-lt o = omega arith

-- ---- the parts of a choice

pub record ChoiceFormed (d : DescV) (parts : List ℕ) : Type 0 where
  pub seen : List ℕ
  pub round : ℕ
  pub held : PartsFormed d.nodes false seen round parts
  pub two : 2 ≤ length parts

pub choice_parts : (d : DescV) (k : ℕ) {parts : List ℕ} → IsDescription d → slice_get d.nodes k ≡ Some (Choice parts) → ChoiceFormed d parts
choice_parts d k {parts} is at = of_formed (node_placed d is k (Choice parts) at).is
  where
    of_formed : {seen : List ℕ} {round : ℕ} → Formed d.nodes seen round k → ChoiceFormed d parts
    of_formed {seen} {round} (formed n here few head have room held) =
        let same : n ≡ Choice parts = cc in
        let P : Node → Type 0 = λ n. PartsFormed d.nodes (shows_earlier n) seen (suc round) (parts_of n) in
        let Q : Node → Type 0 = λ n. HasParts (head_of n) (length (parts_of n)) in
        record { seen = seen; round = suc round; held = subst P same held; two = subst Q same have }

-- another part than the one with the number m, where there are two
record Another (parts : List ℕ) (m : ℕ) : Type 0 where
  j : ℕ
  part : ℕ
  at : slice_get parts j ≡ Some part
  differs : m ≢ j

another : (parts : List ℕ) (m : ℕ) → 2 ≤ length parts → Another parts m
another [] m two = absurd (omega arith)
another (p ∷ []) m two = absurd (omega arith)
another (p ∷ (q ∷ parts)) zero two = record { j = 1; part = q; at = refl; differs = λ same. absurd (omega arith) }
another (p ∷ (q ∷ parts)) (suc m) two = record { j = 0; part = p; at = refl; differs = λ same. absurd (omega arith) }

module _ (d : DescV) where
  pub null_followed : {i o : ℕ} {v : Values} {b : List ℕ} → IsNull d i → NFollow d i o v b → b ≡ []
  null_followed at h = of_null (follow_at d at h)
    where
      of_null : {o : ℕ} {v : Values} {b : List ℕ} → NodeFollows d Null o v b → b ≡ []
      of_null (follows_whole t (means_null nothing)) = nothing

  pub part_null : (q : ℕ) → IsNull d q ⊎ (IsNull d q → ⊥)
  part_null q = by_node (slice_get d.nodes q) refl
    where
      by_node : (n : Option Node) → slice_get d.nodes q ≡ n → IsNull d q ⊎ (IsNull d q → ⊥)
      by_node None is = inr (λ null. cc)
      by_node (Some n) is =
          elim (null_or n) [
            | inl same ↦ inl (is ∙ ap Some same)
            | inr differs ↦ inr (λ null. let same : n ≡ Null = cc in differs same)
          ]

module _ (d : DescV) (most : ℕ) (here : Here d) (certified : Certified d most) (k o : ℕ) (parts : List ℕ)
    (at : slice_get d.nodes k ≡ Some (Choice parts)) where
  -- keys of two alternatives are apart
  pub apart : {m j p q : ℕ} {w z : List ℕ} {mark_w mark_z : Bool} → Reached d k (o % 8)
      → m ≢ j → slice_get parts m ≡ Some q → slice_get parts j ≡ Some p → (IsNull d q → ⊥) → (IsNull d p → ⊥)
      → InKeys d most q (o % 8) w mark_w → InKeys d most p (o % 8) z mark_z → IsBegunBy w z ⊎ IsBegunBy z w → ⊥
  apart {m} {j} {w = w} {z = z} {mark_w = mark_w} {mark_z = mark_z} reached differs at_m at_j real_m real_j key_w key_z either =
      elim (order m j) [
        | equal_numbers same ↦ differs same
        | first_less less ↦ certified (Overlap k (o % 8) m j w z) (overlap mark_w mark_z at reached less at_m at_j real_m real_j key_w key_z either)
        | second_less less ↦ certified (Overlap k (o % 8) j m z w)
            (overlap mark_z mark_w at reached less at_j at_m real_j real_m key_z key_w (either_way either))
      ]

  -- two alternatives do not both take no bits
  pub one_null : {m j p q : ℕ} → m ≢ j → slice_get parts m ≡ Some q → slice_get parts j ≡ Some p → IsNull d q → IsNull d p → ⊥
  one_null {m} {j} differs at_m at_j null_m null_j =
      elim (order m j) [
        | equal_numbers same ↦ differs same
        | first_less less ↦ certified (TwoEmpty k m j) (two_empty at less at_m at_j null_m null_j)
        | second_less less ↦ certified (TwoEmpty k j m) (two_empty at less at_j at_m null_j null_m)
      ]

  -- no key of an alternative that takes bits is empty
  some_key : {p : ℕ} {w : List ℕ} {mark : Bool} (j : ℕ) → slice_get parts j ≡ Some p → (IsNull d p → ⊥) → InKeys d most p (o % 8) w mark → w ≡ [] → ⊥
  some_key {p} {mark = mark} j at_j real key nothing =
      let P : List ℕ → Type 0 = λ l. InKeys d most p (o % 8) l mark in
      certified (NotFirm k j) (choice_not_firm at at_j real (inr (o % 8, octet-lt o, mark, subst P nothing key)))

  -- beside an alternative that takes no bits, a key of another one does not begin with a bit that stands behind
  pub no_clash : {i j p q : ℕ} (a : ℕ) → Reached d k (o % 8) → j ≢ i → slice_get parts i ≡ Some p
      → slice_get parts j ≡ Some q → IsNull d p → InStart d q (o % 8) a → InFollow d k (o % 8) (Some a) → ⊥
  no_clash a reached differs at_i at_j null start follow = certified (EmptyClash k (o % 8) a) (empty_clash at reached at_i null at_j differs start follow)

  -- ---- a key is held

  -- the bits ahead, which begin with a key of the alternative j, are not those of an alternative that takes none
  not_null : {m j q : ℕ} {held b x : List ℕ} (more : List ℕ) → Reached d k (o % 8)
      → m ≢ j → slice_get parts m ≡ Some q → IsNull d q → (h : BeginsWithKey d most parts (o % 8) held j)
      → b ≡ [] → b ++ x ≡ held ++ more → Stands d k o b x → ⊥
  not_null {m} {j} {b = b} {x = x} more reached differs at_m null h nothing e s = by_word h.word refl
    where
      by_word : (w : List ℕ) → h.word ≡ w → ⊥
      by_word [] is = some_key j h.is_part h.takes_bits h.key is
      by_word (a ∷ r) is =
          let starts_so = key_start d here most o a r is h.key in
          let ahead : x ≡ a ∷ (r ++ (h.begins.0 ++ more)) =
          ap (λ l. l ++ x) (sym nothing) ∙ e ∙ ap (λ l. l ++ more) h.begins.1 ∙ append_assoc h.word h.begins.0 more ∙ ap (λ l. l ++ (h.begins.0 ++ more)) is in
          no_clash a reached (λ same. differs (sym same)) at_m h.is_part null starts_so (stands_here (Follow d) a (r ++ (h.begins.0 ++ more)) nothing ahead s)

  -- bits that have a tree at an alternative, where a key of the alternative j is held: it is that one
  pub key_decides : {q j : ℕ} {v : Values} {held b : List ℕ} {t : TreeV} (m : ℕ) (x more : List ℕ)
      → Reached d k (o % 8) → BeginsWithKey d most parts (o % 8) held j → slice_get parts m ≡ Some q
      → NMeans d q o v b t → b ++ x ≡ held ++ more → Stands d k o b x → m ≡ j
  key_decides {q = q} {j = j} {b = b} m x more reached h at_m meaning e s =
      same_number m j (λ differs.
      elim (part_null d q) [
        | inl null ↦ not_null more reached differs at_m null h (null_bits d null meaning) e s
        | inr real ↦
            let k = keys d here most meaning in
            let both = begun_both k.word k.rest h.word h.begins.0 x more k.begins h.begins.1 e in
            apart reached differs at_m h.is_part real h.takes_bits k.key h.key both
      ])

  -- and so of bits that an alternative follows
  pub key_decides_followed : {q j : ℕ} {v : Values} {held : List ℕ} (m : ℕ) (more : List ℕ) → Reached d k (o % 8)
      → BeginsWithKey d most parts (o % 8) held j → slice_get parts m ≡ Some q → NFollow d q o v (held ++ more)
      → m ≡ j
  key_decides_followed {q = q} {j = j} {held = held} m more reached h at_m followed =
      same_number m j (λ differs.
      elim (part_null d q) [
        | inl null ↦
            let nothing = no_front h.word h.begins.0 (sym h.begins.1 ∙ no_front held more (null_followed d null followed)) in
            some_key j h.is_part h.takes_bits h.key nothing
        | inr real ↦ by_near differs real (near_keys d here most followed)
      ])
    where
      by_near : m ≢ j → (IsNull d q → ⊥) → Near (InKeys d most q (o % 8)) (held ++ more) → ⊥
      by_near differs real (near_begun k) =
          let both = begun_both k.word k.rest h.word h.begins.0 [] more k.begins h.begins.1 (append-nil (held ++ more)) in
          apart reached differs at_m h.is_part real h.takes_bits k.key h.key both
      by_near differs real (near_within {word = word} rest key is) =
          let begins : word ≡ h.word ++ (h.begins.0 ++ (more ++ rest)) =
          is ∙ append_assoc held more rest ∙ ap (λ l. l ++ (more ++ rest)) h.begins.1 ∙ append_assoc h.word h.begins.0 (more ++ rest) in
          apart reached differs at_m h.is_part real h.takes_bits key h.key (inl (h.begins.0 ++ (more ++ rest), begins))

  -- ---- the alternative that takes no bits

  -- what may follow a choice stands next: the first bit is not one that another alternative begins with
  begins_behind : {i j p q : ℕ} {held : List ℕ} {ended : Bool} (a : ℕ) (r more : List ℕ) → Reached d k (o % 8)
      → j ≢ i → slice_get parts i ≡ Some p → slice_get parts j ≡ Some q → IsNull d p → InStart d q (o % 8) a
      → (ended ≡ true → more ≡ []) → StandsBehind d most k (o % 8) held ended → a ∷ r ≡ held ++ more → ⊥
  begins_behind a r more reached differs at_i at_j null start over (behind_bit {bit = bit} follow) e =
      let same : bit ≡ a = cc in
      let P : ℕ → Type 0 = λ x. InFollow d k (o % 8) (Some x) in
      no_clash a reached differs at_i at_j null start (subst P same follow)
  begins_behind a r more reached differs at_i at_j null start over (behind_end ended) e = let none = over ended in absurd (cc)

  pub none_decides : {q i : ℕ} {v : Values} {held b : List ℕ} {ended : Bool} {t : TreeV} (m : ℕ) (x more : List ℕ)
      → Reached d k (o % 8) → FitWidths d v → TakesNone d most k parts (o % 8) held ended i
      → (ended ≡ true → more ≡ []) → slice_get parts m ≡ Some q → NMeans d q o v b t → b ++ x ≡ held ++ more → m ≡ i
  none_decides {q} {i} {v = v} {held = held} {b = b} {ended = ended} {t = t} m x more reached widths h over at_m meaning e =
      same_number m i (λ differs.
      elim (part_null d q) [
        | inl null ↦ one_null differs at_m h.is_part null h.is_null
        | inr real ↦ by_bits differs real b refl
      ])
    where
      by_bits : m ≢ i → (IsNull d q → ⊥) → (l : List ℕ) → b ≡ l → ⊥
      by_bits differs real [] is = certified (NotFirm k m) (choice_not_firm at at_m real (inl (nullable d here meaning is)))
      by_bits differs real (a ∷ l) is =
          begins_behind a (l ++ x) more reached differs h.is_part at_m h.is_null (starts d here a l is widths meaning)
          over h.behind (ap (λ l. l ++ x) (sym is) ∙ e)

  follows_behind : {i m p q : ℕ} {v : Values} {held : List ℕ} {ended : Bool} (more : List ℕ) → Reached d k (o % 8)
      → FitWidths d v → m ≢ i → slice_get parts i ≡ Some p → slice_get parts m ≡ Some q → IsNull d p → 0 < length held
      → StandsBehind d most k (o % 8) held ended → NFollow d q o v (held ++ more) → ⊥
  follows_behind more reached widths differs at_i at_m null some (behind_bit {bit = bit} {rest = rest} follow) followed =
      no_clash bit reached differs at_i at_m null (follows d here bit (rest ++ more) refl widths followed) follow
  follows_behind more reached widths differs at_i at_m null some (behind_end is) followed = absurd (omega arith)

  -- of bits that an alternative follows, where some are held
  pub none_decides_followed : {q i : ℕ} {v : Values} {held : List ℕ} {ended : Bool} (m : ℕ) (more : List ℕ)
      → Reached d k (o % 8) → FitWidths d v → TakesNone d most k parts (o % 8) held ended i → 0 < length held
      → slice_get parts m ≡ Some q → NFollow d q o v (held ++ more) → m ≡ i
  none_decides_followed {q} {i} m more reached widths h some at_m followed =
      same_number m i (λ differs.
      elim (part_null d q) [
        | inl null ↦ one_null differs at_m h.is_part null h.is_null
        | inr real ↦ follows_behind more reached widths differs h.is_part at_m h.is_null some h.behind followed
      ])

  -- ---- no alternative

  -- where a choice stands and no bit is held, some bit begins a key
  begins_some : {q : ℕ} (m : ℕ) → ChoiceFormed d parts → slice_get parts m ≡ Some q → IsNull d q → BeginsKey d most parts (o % 8) []
  begins_some m formed_parts at_m null =
      let other = another parts m formed_parts.two in
      let key = has_key d here most (o % 8) (choice_formed d.nodes other.j other.part formed_parts.held other.at) in
      elim (part_null d other.part) [
        | inl both ↦ absurd (one_null other.differs at_m other.at null both)
        | inr real ↦ record {
          j = other.j;
          own = record { part = other.part; word = key.word; mark = key.mark; is_part = other.at; key = key.key };
          begins = (key.word, refl);
          not_all = some_bit key.word (λ nothing. some_key other.j other.at real key.key nothing);
        }
      ]

  -- the held bits begin with a key of an alternative that takes bits; and so where they are all of it
  with_key : {q : ℕ} {held word : List ℕ} {mark : Bool} (m : ℕ) (rest : List ℕ)
      → slice_get parts m ≡ Some q → (IsNull d q → ⊥) → InKeys d most q (o % 8) word mark → held ≡ word ++ rest
      → BeginsWithKey d most parts (o % 8) held m
  with_key {q} {word = word} {mark = mark} m rest at_m real key is =
      record { own = record { part = q; word = word; mark = mark; is_part = at_m; key = key }; takes_bits = real; begins = (rest, is) }

  all_held : (held word : List ℕ) → word ≡ held ++ [] → held ≡ word ++ []
  all_held held word is = sym (append-nil held) ∙ sym is ∙ sym (append-nil word)

  -- a key that the held bits begin, where they are all of it or not
  key_left : {q : ℕ} {held word : List ℕ} {mark : Bool} (m : ℕ) (r : List ℕ)
      → slice_get parts m ≡ Some q → (IsNull d q → ⊥) → InKeys d most q (o % 8) word mark → word ≡ held ++ r
      → ((j : ℕ) → ¬ BeginsWithKey d most parts (o % 8) held j) → ¬ BeginsKey d most parts (o % 8) held → ⊥
  key_left {held = held} {word = word} m [] at_m real key is no_key no_more =
      no_key m (with_key m [] at_m real key (all_held held word is))
  key_left {q = q} {held = held} {word = word} {mark = mark} m (a ∷ r) at_m real key is no_key no_more =
      let size = ap length is in
      no_more (record {
        j = m;
        own = record { part = q; word = word; mark = mark; is_part = at_m; key = key };
        begins = (a ∷ r, is);
        not_all = omega (arith, length-append held (a ∷ r));
      })

  -- bits that begin with a key, and with the held bits
  begun_left : {q : ℕ} {held word : List ℕ} {mark : Bool} (m : ℕ) (rest more : List ℕ) (ended : Bool)
      → slice_get parts m ≡ Some q → (IsNull d q → ⊥) → InKeys d most q (o % 8) word mark
      → word ++ rest ≡ held ++ more → (ended ≡ true → more ≡ [])
      → ((j : ℕ) → ¬ BeginsWithKey d most parts (o % 8) held j)
      → (ended ≡ false → ¬ BeginsKey d most parts (o % 8) held) → ⊥
  begun_left {held = held} {word = word} m rest more ended at_m real key e over no_key no_more =
      by_split (splits word rest held more e) ended refl
    where
      by_split : Splits word rest held more → (last : Bool) → ended ≡ last → ⊥
      by_split (inside r p s) false is = key_left m r at_m real key p no_key (no_more is)
      by_split (inside [] p s) true is = no_key m (with_key m [] at_m real key (all_held held word p))
      by_split (inside (a ∷ r) p s) true is = let none = over is in absurd (cc)
      by_split (behind r p s) last is = no_key m (with_key m r at_m real key p)

  -- where look-ahead refuses, no bits ahead have a tree at an alternative
  pub refused_means : {q : ℕ} {v : Values} {held b : List ℕ} {t : TreeV} (m : ℕ) (ended : Bool) (x more : List ℕ)
      → ChoiceFormed d parts → ((j : ℕ) → ¬ BeginsWithKey d most parts (o % 8) held j)
      → ((i : ℕ) → ¬ TakesNone d most k parts (o % 8) held ended i)
      → (ended ≡ false → ¬ BeginsKey d most parts (o % 8) held) → (ended ≡ true → more ≡ [])
      → slice_get parts m ≡ Some q → NMeans d q o v b t → b ++ x ≡ held ++ more → Stands d k o b x → ⊥
  refused_means {q} {held = held} {b = b} m ended x more formed_parts no_key no_none no_more over at_m meaning e s =
      elim (part_null d q) [
        | inl null ↦ of_null null held refl
        | inr real ↦
            let key = keys d here most meaning in
            let whole = sym (append_assoc key.word key.rest x) ∙ ap (λ l. l ++ x) (sym key.begins) ∙ e in
            begun_left m (key.rest ++ x) more ended at_m real key.key whole over no_key no_more
      ]
    where
      at_end : IsNull d q → held ≡ [] → (last : Bool) → ended ≡ last → ⊥
      at_end null is true ends_so =
          let P : List ℕ → Type 0 = λ l. StandsBehind d most k (o % 8) l ended in
          no_none m (record { part = q; is_part = at_m; is_null = null; behind = subst P (sym is) (behind_end ends_so) })
      at_end null is false goes_on =
          let P : List ℕ → Type 0 = λ l. BeginsKey d most parts (o % 8) l in
          no_more goes_on (subst P (sym is) (begins_some m formed_parts at_m null))

      of_null : IsNull d q → (l : List ℕ) → held ≡ l → ⊥
      of_null null [] is = at_end null is ended refl
      of_null null (a ∷ l) is =
          let nothing = null_bits d null meaning in
          let ahead : x ≡ a ∷ (l ++ more) = ap (λ l. l ++ x) (sym nothing) ∙ e ∙ ap (λ l. l ++ more) is in
          let P : List ℕ → Type 0 = λ l. StandsBehind d most k (o % 8) l ended in
          let follow = stands_here (Follow d) a (l ++ more) nothing ahead s in
          no_none m (record { part = q; is_part = at_m; is_null = null; behind = subst P (sym is) (behind_bit follow) })

  -- and none are followed, where the block goes on
  pub refused_follows : {q : ℕ} {v : Values} {held : List ℕ} (m : ℕ) (more : List ℕ)
      → ChoiceFormed d parts → ((j : ℕ) → ¬ BeginsWithKey d most parts (o % 8) held j)
      → ¬ BeginsKey d most parts (o % 8) held → slice_get parts m ≡ Some q → NFollow d q o v (held ++ more) → ⊥
  refused_follows {q} {held = held} m more formed_parts no_key no_more at_m followed =
      elim (part_null d q) [
        | inl null ↦
            let nothing = no_front held more (null_followed d null followed) in
            let P : List ℕ → Type 0 = λ l. BeginsKey d most parts (o % 8) l in
            no_more (subst P (sym nothing) (begins_some m formed_parts at_m null))
        | inr real ↦ by_near real (near_keys d here most followed)
      ]
    where
      by_near : (IsNull d q → ⊥) → Near (InKeys d most q (o % 8)) (held ++ more) → ⊥
      by_near real (near_begun key) =
          begun_left m key.rest more false at_m real key.key (sym key.begins) (λ never. absurd (cc)) no_key (λ goes_on. no_more)
      by_near real (near_within {word = word} rest key is) =
          key_left m (more ++ rest) at_m real key (is ∙ append_assoc held more rest) no_key no_more

module _ (d : DescV) (most : ℕ) (here : Here d) (certified : Certified d most) where
  -- ---- free repetitions

  -- where the next bit begins the part, a repetition does not end
  pub goes_on : {k i o : ℕ} {b x : List ℕ} (a : ℕ) (r : List ℕ) → slice_get d.nodes k ≡ Some (Many i)
      → Reached d i (o % 8) → InStart d i (o % 8) a → b ++ x ≡ a ∷ r → Stands d k o b x → 0 < length b
  goes_on {k} {o = o} {b = []} a r at reached start e s =
      absurd (certified (LoopClash k (o % 8) a) (loop_clash at reached start (stands_here (Follow d) a r refl e s)))
  goes_on {b = z ∷ b} a r at reached start e s = omega arith

module _ (d : DescV) (here : Here d) where
  -- where it does not, a repetition has no bits
  pub stops : {i o : ℕ} {v : Values} {b : List ℕ} {ts : Trees} (k : ℕ) (x : List ℕ) (a : ℕ) (r : List ℕ)
      → slice_get d.nodes k ≡ Some (Many i) → FitWidths d v → ¬ InStart d i (o % 8) a → ManyMean d i o v b ts
      → b ++ x ≡ a ∷ r → b ≡ []
  stops {b = []} k x a r at widths never h e = refl
  stops {b = z ∷ b} k x a r at widths never h e = let same : z ∷ b ≡ a ∷ b = cc in absurd (never (many_start d here k a b at same widths h))
