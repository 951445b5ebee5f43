-- The nodes that a named rule gives are numbered through from the root.
use Rattle.std.proofs.Common.{◌≡◌, ℕ, suc, ◌+◌, List, [], ◌∷◌, ◌++◌, length, refl, sym, ap, subst, arith, Some, length-append}
use Rattle.std.specs.Prelude.{slice_get}
use Rattle.csn_desc.specs.declared.reading.Reading.{Reading}
use Rattle.csn_desc.specs.declared.symbol.Symbol.{Symbol}
use Rattle.csn_desc.specs.declared.node.Node.{Node}
use Rattle.csn_desc.specs.declared.node.Node.TheVariants.{Lits, Seq, Many}
use Rattle.csn_desc.specs.Nodes.{parts_of}
use Rattle.csn_desc.specs.Formed.{Spans, PartsSpan, spans, span_end, span_next}
use Rattle.csn_grammar.specs.declared.rules.Rule.{Rule}
use Rattle.csn_grammar.specs.ExprV.{ExprV, ExprsV}
use Rattle.csn_grammar.specs.RulesV.{RulesV}
use Rattle.csn_resolve.specs.Seen.{Frame, Seen}
use Rattle.csn_resolve.specs.Gives.{Placed, placed, start_of, Gives, ItemsGive, EachGives, RuleGives, gives_lits}
use Rattle.csn_resolve.specs.Gives.{gives_null, gives_bit, gives_octet, gives_field, gives_rest, gives_spare_bit}
use Rattle.csn_resolve.specs.Gives.{gives_spare_low, gives_padding, gives_seq, gives_choice, gives_only, gives_times}
use Rattle.csn_resolve.specs.Gives.{gives_many, gives_cut, gives_window, gives_labelled, gives_name, gives_group}
use Rattle.csn_resolve.specs.Gives.{gives_received, gives_sent, items_end, items_next, each_end, each_next}
use Rattle.csn_resolve.specs.Gives.{rule_plain, rule_tail}
use Rattle.csn_resolve.specs.Resolved.{NameGives, nodes_of}
use Rattle.csn_resolve.proofs.Laying.Holding.{Holds, holds_along, holds_from, holds_first, holds_rest, inner_holds, holds_behind, node_from}

module _ (all : List Node) where
  spans_from : {i j end other : ℕ} → i ≡ j → end ≡ other → Spans all i end → Spans all j other
  spans_from {i} {j} {end} {other} p q h =
      let P : ℕ → Type 0 = λ z. Spans all i z in let Q : ℕ → Type 0 = λ z. Spans all z other in subst Q p (subst P q h)

  parts_to :
      {parts : List ℕ} {at end other : ℕ}
      → end ≡ other → PartsSpan all parts at end → PartsSpan all parts at other
  parts_to {parts} {at} p h = let P : ℕ → Type 0 = λ z. PartsSpan all parts at z in subst P p h

  parts_along :
      {parts others : List ℕ} {at end : ℕ}
      → parts ≡ others → PartsSpan all parts at end → PartsSpan all others at end
  parts_along {at = at} {end = end} p h = let P : List ℕ → Type 0 = λ z. PartsSpan all z at end in subst P p h

  parts_append :
      {parts others : List ℕ} {at middle end : ℕ}
      → PartsSpan all parts at middle → PartsSpan all others middle end → PartsSpan all (parts ++ others) at end
  parts_append {others = others} {end = end} (span_end p) more =
      let P : ℕ → Type 0 = λ z. PartsSpan all others z end in subst P p more
  parts_append (span_next middle p h later) more = span_next middle p h (parts_append later more)

  -- a node, with its parts inside it
  node_spans :
      (n : Node) (at s : ℕ) (nodes inner : List Placed) → nodes ≡ placed n s ∷ inner → Holds all at nodes
      → PartsSpan all (parts_of n) (suc at) (suc at + length inner) → Spans all at (at + length nodes)
  node_spans n at s nodes inner p h parts =
      let here = holds_along all at p h in
      spans n here.0 (parts_to (omega (arith, ap length p)) parts)

  none_inside : (at : ℕ) → PartsSpan all [] (suc at) (suc at + 0)
  none_inside at = span_end (omega arith)

  one_inside :
      (at : ℕ) (inner : List Placed)
      → Spans all (suc at) (suc at + length inner)
      → PartsSpan all (suc at ∷ []) (suc at) (suc at + length inner)
  one_inside at inner h = span_next (suc at + length inner) refl h (span_end refl)

  -- one part, and the others
  next_spans :
      {at : ℕ} {parts later : List ℕ} {nodes : List Placed} (first rest : List Placed) → parts ≡ at ∷ later → nodes ≡ first ++ rest
      → (Holds all at first → Spans all at (at + length first))
      → (Holds all (at + length first) rest → PartsSpan all later (at + length first) (at + length first + length rest))
      → Holds all at nodes → PartsSpan all parts at (at + length nodes)
  next_spans {at} first rest p q one others h =
      let here = holds_along all at q h in
      parts_along (sym p) (span_next (at + length first) refl (one (holds_first all at first rest here))
      (parts_to (omega (arith, ap length q, length-append first rest)) (others (holds_rest all at first rest here))))

  -- the repetition of a rule in tail form, and the word that stops it
  tail_spans :
      {end : ℕ} (many stop : ℕ) (parts : List ℕ) (again run : List Symbol)
      → slice_get all many ≡ Some (Many (many + 1)) → slice_get all (suc many) ≡ Some (Seq ((many + 2) ∷ parts))
      → slice_get all (suc (suc many)) ≡ Some (Lits again) → PartsSpan all parts (many + 3) stop
      → slice_get all stop ≡ Some (Lits run) → end ≡ suc stop → PartsSpan all (many ∷ stop ∷ []) many end
  tail_spans many stop parts again run many_at seq_at word_at turn stop_at ends =
      span_next stop refl
      (spans _ many_at (span_next stop (omega arith)
      (spans _ (node_from all (omega arith) seq_at)
      (span_next (many + 3) (omega arith) (spans _ (node_from all (omega arith) word_at) (span_end (omega arith))) turn))
      (span_end refl)))
      (span_next (suc stop) refl (spans _ stop_at (span_end refl)) (span_end ends))

  module _ (rules : RulesV) (r : Reading) where
    mutual
      gives_spans :
          {x : ExprV} {at : ℕ} {seen : Seen ℕ} {nodes : List Placed}
          → Gives rules r x at seen nodes → Holds all at nodes → Spans all at (at + length nodes)
      gives_spans {at = at} (gives_lits p) h = node_spans _ at _ _ [] p h (none_inside at)
      gives_spans {at = at} (gives_null p) h = node_spans _ at _ _ [] p h (none_inside at)
      gives_spans {at = at} (gives_bit p) h = node_spans _ at _ _ [] p h (none_inside at)
      gives_spans {at = at} (gives_octet p) h = node_spans _ at _ _ [] p h (none_inside at)
      gives_spans {at = at} (gives_field unit count is_unit is p) h = node_spans _ at _ _ [] p h (none_inside at)
      gives_spans {at = at} (gives_rest is p) h = node_spans _ at _ _ [] p h (none_inside at)
      gives_spans {at = at} (gives_spare_bit is p) h = node_spans _ at _ _ [] p h (none_inside at)
      gives_spans {at = at} (gives_spare_low is p) h = node_spans _ at _ _ [] p h (none_inside at)
      gives_spans {at = at} (gives_padding is p) h = node_spans _ at _ _ [] p h (none_inside at)
      gives_spans {at = at} (gives_seq g p) h =
          node_spans _ at _ _ _ p h (items_spans g (inner_holds all _ at _ _ _ p h))
      gives_spans {at = at} (gives_choice xs kept two g p) h =
          node_spans _ at _ _ _ p h (each_spans g (inner_holds all _ at _ _ _ p h))
      gives_spans (gives_only kept g) h = gives_spans g h
      gives_spans {at = at} (gives_times {inner = inner} count none is g p) h =
          node_spans _ at _ _ inner p h (one_inside at inner (gives_spans g (inner_holds all _ at _ _ inner p h)))
      gives_spans {at = at} (gives_many {inner = inner} not g p) h =
          node_spans _ at _ _ inner p h (one_inside at inner (gives_spans g (inner_holds all _ at _ _ inner p h)))
      gives_spans {at = at} (gives_cut g p) h =
          node_spans _ at _ _ _ p h (items_spans g (inner_holds all _ at _ _ _ p h))
      gives_spans {at = at} (gives_window {inner = inner} w count is is_count g p) h =
          node_spans _ at _ _ inner p h (one_inside at inner (gives_spans g (inner_holds all _ at _ _ inner p h)))
      gives_spans {at = at} (gives_labelled {inner = inner} g p) h =
          node_spans _ at _ _ inner p h (one_inside at inner (gives_spans g (inner_holds all _ at _ _ inner p h)))
      gives_spans (gives_name rule is g) h = rule_spans g h
      gives_spans (gives_group g) h = gives_spans g h
      gives_spans (gives_received is g) h = gives_spans g h
      gives_spans (gives_sent is g) h = gives_spans g h

      items_spans :
          {xs : ExprsV} {at : ℕ} {frame : Frame ℕ} {seen : Seen ℕ} {parts : List ℕ} {nodes : List Placed}
          → ItemsGive rules r xs at frame seen parts nodes → Holds all at nodes
          → PartsSpan all parts at (at + length nodes)
      items_spans {at = at} (items_end p q) h = parts_along (sym p) (span_end (omega (arith, ap length q)))
      items_spans (items_next first rest g others p q) h =
          next_spans first rest p q (λ k. gives_spans g k) (λ k. items_spans others k) h

      each_spans :
          {xs : List ExprV} {at : ℕ} {seen : Seen ℕ} {parts : List ℕ} {nodes : List Placed}
          → EachGives rules r xs at seen parts nodes → Holds all at nodes
          → PartsSpan all parts at (at + length nodes)
      each_spans {at = at} (each_end p q) h = parts_along (sym p) (span_end (omega (arith, ap length q)))
      each_spans (each_next first rest g others p q) h =
          next_spans first rest p q (λ k. gives_spans g k) (λ k. each_spans others k) h

      rule_spans :
          {rule : Rule} {at : ℕ} {seen : Seen ℕ} {nodes : List Placed}
          → RuleGives rules r rule at seen nodes → Holds all at nodes → Spans all at (at + length nodes)
      rule_spans (rule_plain is g) h = gives_spans g h
      rule_spans {rule = rule} {at = at} {nodes = nodes} (rule_tail tail many stop parts turn_parts items turn is i many_is t stop_is p) h =
          let last : List Placed = placed (Lits tail.end.stop.run) tail.end.stop.at ∷ [] in
          let turns : List Placed =
          placed (Many (many + 1)) tail.end.braces ∷ placed (Seq ((many + 2) ∷ turn_parts)) tail.end.again.at
          ∷ placed (Lits tail.end.again.run) tail.end.again.at ∷ (turn ++ last) in
          let root : Node = Seq (parts ++ many ∷ stop ∷ []) in
          let here : Holds all (suc at) (items ++ turns) =
          inner_holds all root at (start_of rule.body) nodes (items ++ turns) p h in
          let at_many : Holds all many turns = holds_from all turns (sym many_is) (holds_rest all (suc at) items turns here) in
          let at_turn : Holds all (many + 3) (turn ++ last) = holds_from all (turn ++ last) (omega arith) at_many.1.1.1 in
          let at_stop : Holds all stop last = holds_from all last (sym stop_is) (holds_rest all (many + 3) turn last at_turn) in
          node_spans root at (start_of rule.body) nodes (items ++ turns) p h
          (parts_append (parts_to (sym many_is) (items_spans i (holds_first all (suc at) items turns here)))
          (tail_spans many stop turn_parts tail.end.again.run tail.end.stop.run at_many.0 at_many.1.0 at_many.1.1.0
          (parts_to (sym stop_is) (items_spans t (holds_first all (many + 3) turn last at_turn))) at_stop.0
          (omega (arith, many_is, stop_is, length-append items turns, length-append turn last))))

  pub named_spans :
      (rules : RulesV) (r : Reading) {n : List ℕ} {nodes : List Placed}
      → NameGives rules n r nodes → Holds all 0 nodes → Spans all 0 (length nodes)
  named_spans rules r {nodes = nodes} h holds = spans_from refl (omega arith) (rule_spans rules r h.gives holds)

pub nodes_numbered :
    (rules : RulesV) (r : Reading) {n : List ℕ} {nodes : List Placed}
    → NameGives rules n r nodes → Spans (nodes_of nodes) 0 (length nodes)
nodes_numbered rules r {nodes = nodes} h = named_spans (nodes_of nodes) rules r h (holds_behind [] nodes)
