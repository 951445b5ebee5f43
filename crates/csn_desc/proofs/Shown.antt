-- What the next node sees is what its head may count on.
use Rattle.std.proofs.Common.{◌≡◌, ℕ, suc, ◌≤◌, ◌⊎◌, Bool, true, false, not, ◌&&◌, ◌||◌, if◌then◌else◌, ◌==◌, List}
use Rattle.std.proofs.Common.{[], ◌∷◌, ◌++◌, length, refl, sym, ◌∙◌, ap, arith, Some, inl, inr, Contains, nat_lt}
use Rattle.std.proofs.Common.{ltb-true, ltb-false, eqb-true, eq-eqb}
use Rattle.std.specs.Prelude.{slice_get}
use Rattle.std.specs.List.{list_any}
use Rattle.std.proofs.lemmas.List.Folds.{list_any-append}
use Rattle.csn_desc.specs.declared.node.Count.{Count}
use Rattle.csn_desc.specs.declared.node.Count.TheVariants.{Fixed, Counted}
use Rattle.csn_desc.specs.declared.node.Node.{Node}
use Rattle.csn_desc.specs.declared.node.Head.{Head}
use Rattle.csn_desc.specs.declared.node.Head.TheVariants as head
use Rattle.csn_desc.specs.Nodes.{head_of, parts_of}
use Rattle.csn_desc.specs.Values.{is_named}
use Rattle.csn_desc.specs.Formed.{IsCount, IsHead, shows_earlier, with_seen}
use Rattle.csn_desc.specs.Building.{BuilderV, node_of, has_shown, is_shown, IsNextHead}
use Rattle.csn_desc.specs.Laid.{seen_behind}
use Rattle.csn_desc.specs.Standing.{IsPartAfter, Chain, chain_out, chain_in, AreParts, Stands}
use Rattle.csn_desc.proofs.Entering.{begun_yes}

pub and_left : (a b : Bool) → (a && b) ≡ true → a ≡ true
and_left true b h = refl
and_left false b h = h

pub and_right : (a b : Bool) → (a && b) ≡ true → b ≡ true
and_right true b h = h
and_right false b h = cc

or_either : (a b : Bool) → (a || b) ≡ true → (a ≡ true) ⊎ (b ≡ true)
or_either true b h = inl refl
or_either false b h = inr h

or_right : (a b : Bool) → (a || b) ≡ true → a ≡ false → b ≡ true
or_right true b h e = cc
or_right false b h e = h

or_false : (a b : Bool) → (a || b) ≡ false → a ≡ false
or_false true b h = cc
or_false false b h = refl

or_false_right : (a b : Bool) → (a || b) ≡ false → b ≡ false
or_false_right true b h = cc
or_false_right false b h = h

not_true : (a : Bool) → not a ≡ true → a ≡ false
not_true true h = cc
not_true false h = refl

abbrev has : ℕ → List ℕ → Bool
has field xs = list_any (λ k. k == field) xs

contains_first : (x field : ℕ) (xs : List ℕ) (b : Bool) → (x == field) ≡ b → has field (x ∷ xs) ≡ true
    → (has field xs ≡ true → Contains xs field) → Contains (x ∷ xs) field
contains_first x field xs true e h later = (0, omega arith, eqb-true x field e)
contains_first x field xs false e h later =
    let rest = later (or_right (x == field) (has field xs) h e) in (suc rest.0, omega (arith, rest.1), rest.2)

pub contains_of : (xs : List ℕ) (field : ℕ) → has field xs ≡ true → Contains xs field
contains_of [] field h = cc
contains_of (x ∷ xs) field h = contains_first x field xs (x == field) refl h (contains_of xs field)

module _ (nodes : List Node) (field : ℕ) where
  kept_by_test : (b : Bool) (i : ℕ) (seen : List ℕ) → has field seen ≡ true → has field (if b then i ∷ seen else seen) ≡ true
  kept_by_test true i seen h = or_true (i == field) (has field seen) h
    where
      or_true : (a b : Bool) → b ≡ true → (a || b) ≡ true
      or_true true b e = refl
      or_true false b e = e
  kept_by_test false i seen h = h

  kept_by_part : (shows : Bool) (i : ℕ) (seen : List ℕ) → has field seen ≡ true → has field (with_seen nodes shows i seen) ≡ true
  kept_by_part false i seen h = h
  kept_by_part true i seen h = kept_by_test (is_named nodes i) i seen h

  kept_behind : (shows : Bool) (parts seen : List ℕ) → has field seen ≡ true → has field (seen_behind nodes shows parts seen) ≡ true
  kept_behind shows [] seen h = h
  kept_behind shows (i ∷ parts) seen h = kept_behind shows parts (with_seen nodes shows i seen) (kept_by_part shows i seen h)

  added_by_part : (i : ℕ) (seen : List ℕ) → is_named nodes field ≡ true → i ≡ field → has field (with_seen nodes true i seen) ≡ true
  added_by_part i seen named here =
      let test : is_named nodes i ≡ true = ap (λ k. is_named nodes k) here ∙ named in
      ap (λ b. has field (if b then i ∷ seen else seen)) test ∙ ap (λ b. b || has field seen) (eq-eqb i field here)

  added_step :
      (i : ℕ) (parts seen : List ℕ) → is_named nodes field ≡ true → (b : Bool) → (i == field) ≡ b → has field (i ∷ parts) ≡ true
      → (has field parts ≡ true → has field (seen_behind nodes true parts (with_seen nodes true i seen)) ≡ true)
      → has field (seen_behind nodes true (i ∷ parts) seen) ≡ true
  added_step i parts seen named true e h later = kept_behind true parts (with_seen nodes true i seen) (added_by_part i seen named (eqb-true i field e))
  added_step i parts seen named false e h later = later (or_right (i == field) (has field parts) h e)

  added_behind : (parts seen : List ℕ) → is_named nodes field ≡ true → has field parts ≡ true → has field (seen_behind nodes true parts seen) ≡ true
  added_behind [] seen named h = cc
  added_behind (i ∷ parts) seen named h = added_step i parts seen named (i == field) refl h (λ k. added_behind parts (with_seen nodes true i seen) named k)

  shown_shows : (n : Node) → has_shown field (Some n) ≡ true → shows_earlier n ≡ true
  shown_shows n h = and_left (shows_earlier n) (has field (parts_of n)) h

  shown_has : (n : Node) → has_shown field (Some n) ≡ true → has field (parts_of n) ≡ true
  shown_has n h = and_right (shows_earlier n) (has field (parts_of n)) h

  at_node : (i : ℕ) (n : Node) → slice_get nodes i ≡ Some n → has_shown field (slice_get nodes i) ≡ true → has_shown field (Some n) ≡ true
  at_node i n at h = sym (ap (λ o. has_shown field o) at) ∙ h

  -- where the innermost node shows the field, it is among these parts
  abbrev pub TopHas : List ℕ → List ℕ → Type 0
  TopHas [] parts = Unit {0}
  TopHas (top ∷ rest) parts = has_shown field (slice_get nodes top) ≡ true → has field parts ≡ true

  top_after : (rest before : List ℕ) (i : ℕ) → IsPartAfter nodes rest before i → (i == field) ≡ false → TopHas rest before
  top_after [] before i after other = tt
  top_after (above ∷ rest) before i after other = λ h.
      let all : has field (before ++ i ∷ []) ≡ true = ap (λ l. has field l) (sym after.2) ∙ shown_has after.0 (at_node above after.0 after.1 h) in
      let split : (has field before || has field (i ∷ [])) ≡ true = sym (list_any-append (λ k. k == field) before (i ∷ [])) ∙ all in
      from_split (has field before) (has field (i ∷ [])) split (ap (λ b. b || false) other)
    where
      from_split : (a b : Bool) → (a || b) ≡ true → b ≡ false → a ≡ true
      from_split true b h e = refl
      from_split false b h e = cc

  chain_either :
      (n : Node) (parts round rest : List ℕ) (i : ℕ) → slice_get nodes i ≡ Some n → is_named nodes field ≡ true
      → (has_shown field (slice_get nodes i) ≡ true → has field parts ≡ true)
      → (list_any (λ k. has_shown field (slice_get nodes k)) rest ≡ true → has field round ≡ true)
      → (has_shown field (slice_get nodes i) ≡ true) ⊎ (list_any (λ k. has_shown field (slice_get nodes k)) rest ≡ true)
      → has field (seen_behind nodes (shows_earlier n) parts round) ≡ true
  chain_either n parts round rest i at named top later (inl here) =
      ap (λ b. has field (seen_behind nodes b parts round)) (shown_shows n (at_node i n at here)) ∙ added_behind parts round named (top here)
  chain_either n parts round rest i at named top later (inr below) = kept_behind (shows_earlier n) parts round (later below)

  chain_shows : {around parts seen : List ℕ} {end : ℕ} → Chain nodes around end parts seen
      → is_named nodes field ≡ true → has field around ≡ false → TopHas around parts
      → list_any (λ i. has_shown field (slice_get nodes i)) around ≡ true → has field seen ≡ true
  chain_shows (chain_out h e) named apart top any = cc
  chain_shows {parts = parts} (chain_in {i = i} {rest = rest} n before round c after at deep head inner e) named apart top any =
      ap (λ l. has field l) e ∙ chain_either n parts round rest i at named top
      (λ later. chain_shows c named (or_false_right (i == field) (has field rest) apart)
      (top_after rest before i after (or_false (i == field) (has field rest) apart)) later)
      (or_either (has_shown field (slice_get nodes i)) (list_any (λ k. has_shown field (slice_get nodes k)) rest) any)

  none_entered : (h : Head) (next : ℕ) → shows_earlier (node_of h next) ≡ true → parts_of (node_of h next) ≡ []
  none_entered head.Seq next h = refl
  none_entered head.Trunc next h = refl
  none_entered _ next h = cc

  top_of : (around parts : List ℕ) (end : ℕ) → length nodes ≡ end → AreParts nodes around parts end → TopHas around parts
  top_of [] parts end long are = tt
  top_of (top ∷ rest) parts end long are = λ h. by_test (nat_lt (suc top) (length nodes)) refl (at_node top are.0 are.1 h)
    where
      by_test : (b : Bool) → nat_lt (suc top) (length nodes) ≡ b → has_shown field (Some are.0) ≡ true → has field parts ≡ true
      by_test true e h =
          ap (λ l. has field l) (are.2 ∙ begun_yes nodes top are.0 (ltb-true (suc top) (length nodes) e)) ∙ shown_has are.0 h
      by_test false e h =
          let last : length nodes ≤ suc top = ltb-false (suc top) (length nodes) e in
          let fresh : are.0 ≡ node_of (head_of are.0) (suc top) = are.3 (omega arith) in
          let none : parts_of are.0 ≡ [] = ap parts_of fresh ∙ none_entered (head_of are.0) (suc top) (sym (ap shows_earlier fresh) ∙ shown_shows are.0 h) in
          let no : has field [] ≡ true = sym (ap (λ l. has field l) none) ∙ shown_has are.0 h in
          cc

  pub shown_seen : (around : List ℕ) (s : Stands nodes around) → is_shown nodes around field ≡ true → Contains s.seen field
  shown_seen around s shown =
      let others = and_right (is_named nodes field) (not (has field around) && list_any (λ i. has_shown field (slice_get nodes i)) around) shown in
      let apart : has field around ≡ false =
      not_true (has field around)
      (and_left (not (has field around)) (list_any (λ i. has_shown field (slice_get nodes i)) around) others) in
      contains_of s.seen field
      (chain_shows s.chain (and_left (is_named nodes field) (not (has field around) && list_any (λ i. has_shown field (slice_get nodes i)) around) shown)
      apart (top_of around s.parts (length nodes) refl s.are_parts)
      (and_right (not (has field around)) (list_any (λ i. has_shown field (slice_get nodes i)) around) others))

-- ---- heads

module _ (nodes : List Node) (seen others : List ℕ) (more : (field : ℕ) → Contains seen field → Contains others field) where
  count_seen : (count : Count) → IsCount nodes seen count → IsCount nodes others count
  count_seen (Fixed n) h = h
  count_seen (Counted m field c) h = (h.0, h.1, more field h.2, h.3)

  head_seen : (h : Head) → IsHead nodes seen h → IsHead nodes others h
  head_seen (head.Lits run) h = h
  head_seen (head.Spare symbol) h = h
  head_seen (head.Field unit count) h = (h.0, count_seen count h.1)
  head_seen (head.Times count) h = count_seen count h
  head_seen (head.Window unit count) h = (h.0, count_seen count h.1)
  head_seen head.Pad h = h
  head_seen head.Null h = h
  head_seen head.Rest h = h
  head_seen head.Seq h = h
  head_seen head.Choice h = h
  head_seen head.Many h = h
  head_seen head.Trunc h = h
  head_seen (head.Named label) h = h

pub next_head : (b : BuilderV) (h : Head) (s : Stands b.nodes b.around) → IsNextHead b h → IsHead b.nodes s.seen h
next_head b h s next = head_seen b.nodes next.seen s.seen (λ field inside. shown_seen b.nodes field b.around s (next.shown field inside)) h next.well_formed
