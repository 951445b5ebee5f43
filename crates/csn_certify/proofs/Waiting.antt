-- Where look-ahead waits, the held bits begin a key, and so are followed.
use Rattle.std.proofs.Common.{◌≡◌, ℕ, suc, ◌%◌, ◌<◌, inl, Bool, true, false, List, [], length, refl, subst, arith, Some, slice_get}
use Rattle.csn_desc.specs.declared.node.Node.{Node}
use Rattle.csn_desc.specs.declared.node.Node.TheVariants.{Choice, Many}
use Rattle.csn_desc.specs.TreeV.{TreeV, row, none}
use Rattle.csn_desc.specs.Nodes.{DescV, parts_of}
use Rattle.csn_desc.specs.Values.{Values}
use Rattle.csn_desc.specs.Means.{NMeans, NodeMeans, means_choice, means_many, many_end}
use Rattle.csn_desc.specs.Follows.{NFollow, follows_at, follows_whole, follows_choice}
use Rattle.csn_desc.specs.Formed.{shows_earlier, Formed, PartsFormed, formed, HaveValues}
use Rattle.csn_desc.proofs.Nodewise.{meaning_at, choice_formed}
use Rattle.csn_look.specs.Keys.{InKeys}
use Rattle.csn_look.specs.Laws.{BeginningsOfKeysAreFollowed, KeysAreShort}
use Rattle.csn_certify.specs.declared.conflict.Conflict.TheVariants.{NotFirm}
use Rattle.csn_certify.specs.declared.pick.Pick.TheVariants.{Wait, Refuse}
use Rattle.csn_certify.specs.Conflicts.{IsNull, choice_not_firm, Certified}
use Rattle.csn_certify.specs.Picks.{StandsBehind, behind_bit, behind_end, TakesNone, Picks, pick_wait, pick_refuse, pick_bit}
use Rattle.csn_certify.proofs.Here.{Here, nullable}

module _ (d : DescV) (most : ℕ) where
  pub waiting_followed : {node round o : ℕ} {seen : List ℕ} {v : Values} {held : List ℕ} {ended : Bool}
      → BeginningsOfKeysAreFollowed → Formed d.nodes seen round node → HaveValues v seen
      → Picks d most node (o % 8) held ended Wait → NFollow d node o v held
  waiting_followed {round = round} {o = o} {seen = seen} {v = v} {held = held} keys_followed
      (formed n here few head have room parts_formed) values (pick_wait parts at no_key no_none goes_on h) =
      let same : n ≡ Choice parts = cc in
      let P : Node → Type 0 = λ n. PartsFormed d.nodes (shows_earlier n) seen (suc round) (parts_of n) in
      let part_formed = choice_formed d.nodes h.j h.part (subst P same parts_formed) h.is_part in
      let Q : List ℕ → Type 0 = λ l. InKeys d most h.part (o % 8) l h.mark in
      let key = subst Q h.begins.1 h.key in
      follows_at (Choice parts) at
      (follows_choice h.j h.is_part (keys_followed d most seen (suc round) h.part o v held h.begins.0 h.mark
      part_formed values key))
  waiting_followed keys_followed is_formed values (pick_bit part at goes_on) =
      follows_at (Many part) at (follows_whole (row none) (means_many (many_end refl)))

  pub waiting_ends : {node octet : ℕ} {held : List ℕ} → (held ≡ [] → ⊥) → Picks d most node octet held false Wait → Picks d most node octet held true Refuse
  waiting_ends {node} {octet} {held} some (pick_wait parts at no_key no_none goes_on h) = pick_refuse parts at no_key none_at_end (λ never. absurd (cc))
    where
      behind_before : {l : List ℕ} → (l ≡ [] → ⊥) → StandsBehind d most node octet l true → StandsBehind d most node octet l false
      behind_before more (behind_bit follow) = behind_bit follow
      behind_before more (behind_end ended) = absurd (more refl)

      none_at_end : (i : ℕ) → ¬ TakesNone d most node parts octet held true i
      none_at_end i takes =
          no_none i (record {
            part = takes.part;
            is_part = takes.is_part;
            is_null = takes.is_null;
            behind =
                behind_before some takes.behind;
          })
  waiting_ends some (pick_bit part at goes_on) = absurd (some refl)

  -- where no bits are refused at the end, no alternative takes none
  refused_real : {node octet q : ℕ} {parts : List ℕ} (m : ℕ) → slice_get d.nodes node ≡ Some (Choice parts)
      → Picks d most node octet [] true Refuse → slice_get parts m ≡ Some q → IsNull d q → ⊥
  refused_real {node} {octet} {q} {parts} m at (pick_refuse those is no_key no_none no_more) at_m null =
      let same : parts ≡ those = cc in
      let P : List ℕ → Type 0 = λ l. slice_get l m ≡ Some q in
      no_none m (record { part = q; is_part = subst P same at_m; is_null = null; behind = behind_end refl })

  refused_choice : {node octet : ℕ} → Picks d most node octet [] true Refuse → (parts : List ℕ) × (slice_get d.nodes node ≡ Some (Choice parts))
  refused_choice (pick_refuse parts at no_key no_none no_more) = (parts, at)

  pub refused_has_bits : {node octet o : ℕ} {v : Values} {b : List ℕ} {t : TreeV}
      → Here d → Certified d most → Picks d most node octet [] true Refuse → NMeans d node o v b t → b ≡ [] → ⊥
  refused_has_bits {node} {octet} here certified pick h nothing =
      let choice = refused_choice pick in of_choice choice.1 (meaning_at d choice.1 h) nothing
    where
      of_choice : {o : ℕ} {v : Values} {parts b : List ℕ} {t : TreeV} → slice_get d.nodes node ≡ Some (Choice parts)
          → NodeMeans d (Choice parts) o v b t → b ≡ [] → ⊥
      of_choice at (means_choice {j = m} {i = q} at_m means) empty =
          certified (NotFirm node m) (choice_not_firm at at_m (refused_real m at pick at_m) (inl (nullable d here means empty)))

  pub waiting_few : {node octet : ℕ} {held : List ℕ} {ended : Bool} → KeysAreShort → 0 < most → Picks d most node octet held ended Wait → length held < most
  waiting_few {octet = octet} short some (pick_wait parts at no_key no_none goes_on h) =
      omega (arith, h.not_all, short d most h.part octet h.word h.mark h.key)
  waiting_few short some (pick_bit part at goes_on) = omega (arith, some)
