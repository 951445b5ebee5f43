-- Nodes that are well formed, one by one and behind one another.
use Rattle.std.proofs.Common.{◌≡◌, ℕ, suc, ◌+◌, ◌<◌, ◌≤◌, Bool, true, List, [], ◌∷◌, ◌++◌, length, refl, ap, subst, arith, Some}
use Rattle.std.specs.Prelude.{slice_get}
use Rattle.csn_desc.specs.declared.symbol.Symbol.{Symbol}
use Rattle.csn_desc.specs.declared.node.Node.{Node}
use Rattle.csn_desc.specs.declared.node.Node.TheVariants.{Lits, Seq, Many}
use Rattle.csn_desc.specs.Nodes.{head_of, parts_of}
use Rattle.csn_desc.specs.Formed.{IsHead, HasParts, shows_earlier, with_seen}
use Rattle.csn_desc.specs.Laid.{Laid, laid, PartsLaid, laid_end, laid_next, seen_behind}
use Rattle.csn_resolve.specs.Gives.{Placed, placed}
use Rattle.csn_resolve.proofs.Laying.Holding.{Holds, holds_along, node_from}

module _ (all : List Node) where
  pub laid_to :
      {shown : List ℕ} {round at end other : ℕ} → end ≡ other → Laid all shown round at end → Laid all shown round at other
  laid_to {shown} {round} {at} p h = let P : ℕ → Type 0 = λ z. Laid all shown round at z in subst P p h

  pub parts_to :
      {shows : Bool} {shown parts : List ℕ} {round at end other : ℕ}
      → end ≡ other → PartsLaid all shows shown round parts at end → PartsLaid all shows shown round parts at other
  parts_to {shows} {shown} {parts} {round} {at} p h =
      let P : ℕ → Type 0 = λ z. PartsLaid all shows shown round parts at z in subst P p h

  pub parts_along :
      {shows : Bool} {shown parts others : List ℕ} {round at end : ℕ}
      → parts ≡ others → PartsLaid all shows shown round parts at end → PartsLaid all shows shown round others at end
  parts_along {shows} {shown} {round = round} {at = at} {end = end} p h =
      let P : List ℕ → Type 0 = λ z. PartsLaid all shows shown round z at end in subst P p h

  parts_from :
      {shows : Bool} {shown parts : List ℕ} {round at bt end : ℕ}
      → at ≡ bt → PartsLaid all shows shown round parts at end → PartsLaid all shows shown round parts bt end
  parts_from {shows} {shown} {parts} {round} {end = end} p h =
      let P : ℕ → Type 0 = λ z. PartsLaid all shows shown round parts z end in subst P p h

  -- parts, and behind them others, which see what stands behind the first ones
  pub parts_append :
      {shows : Bool} {shown parts others : List ℕ} {round at middle end : ℕ}
      → PartsLaid all shows shown round parts at middle
      → PartsLaid all shows (seen_behind all shows parts shown) round others middle end
      → PartsLaid all shows shown round (parts ++ others) at end
  parts_append (laid_end p) more = parts_from p more
  parts_append (laid_next middle p h later) more = laid_next middle p h (parts_append later more)

  -- a node, with its parts inside it
  pub node_laid :
      {shown : List ℕ} {round : ℕ} (n : Node) (at s : ℕ) (nodes inner : List Placed)
      → nodes ≡ placed n s ∷ inner → Holds all at nodes → round < 64 → IsHead all shown (head_of n)
      → HasParts (head_of n) (length (parts_of n))
      → PartsLaid all (shows_earlier n) shown (suc round) (parts_of n) (suc at) (suc at + length inner)
      → Laid all shown round at (at + length nodes)
  node_laid n at s nodes inner p h deep head count parts =
      let here = holds_along all at p h in
      laid n here.0 deep head count (parts_to (omega (arith, ap length p)) parts)

  pub none_inside : {shows : Bool} {shown : List ℕ} {round : ℕ} (at : ℕ) → PartsLaid all shows shown round [] (suc at) (suc at + 0)
  none_inside at = laid_end (omega arith)

  pub one_inside :
      {shows : Bool} {shown : List ℕ} {round : ℕ} (at : ℕ) (inner : List Placed)
      → Laid all shown round (suc at) (suc at + length inner)
      → PartsLaid all shows shown round (suc at ∷ []) (suc at) (suc at + length inner)
  one_inside at inner h = laid_next (suc at + length inner) refl h (laid_end refl)

  pub word_laid :
      {shown : List ℕ} {round at end : ℕ} (run : List Symbol)
      → slice_get all at ≡ Some (Lits run) → 1 ≤ length run → round < 64 → end ≡ suc at → Laid all shown round at end
  word_laid run at some deep ends = laid (Lits run) at deep some (omega arith) (laid_end ends)

  -- the repetition of a rule in tail form, and the word that stops it
  pub tail_laid :
      {shown : List ℕ} {round end : ℕ} (many stop : ℕ) (parts : List ℕ) (again run : List Symbol)
      → slice_get all many ≡ Some (Many (many + 1)) → slice_get all (suc many) ≡ Some (Seq ((many + 2) ∷ parts))
      → slice_get all (suc (suc many)) ≡ Some (Lits again) → slice_get all stop ≡ Some (Lits run)
      → 1 ≤ length again → 1 ≤ length run → 1 ≤ length parts → suc (suc round) < 64
      → PartsLaid all true (with_seen all true (many + 2) shown) (suc (suc round)) parts (many + 3) stop
      → end ≡ suc stop → PartsLaid all true shown round (many ∷ stop ∷ []) many end
  tail_laid many stop parts again run many_at seq_at word_at stop_at again_some run_some some deep turn ends =
      laid_next stop refl
      (laid (Many (many + 1)) many_at (omega (arith, deep)) tt refl (laid_next stop (omega arith)
      (laid (Seq ((many + 2) ∷ parts)) (node_from all (omega arith) seq_at) (omega (arith, deep)) tt (omega (arith, some))
      (laid_next (many + 3) (omega arith)
      (word_laid again (node_from all (omega arith) word_at) again_some deep (omega arith)) turn))
      (laid_end refl)))
      (laid_next (suc stop) refl (word_laid run stop_at run_some (omega (arith, deep)) refl) (laid_end ends))
