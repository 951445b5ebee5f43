-- The events of a block are listed.
use Rattle.std.proofs.Common.{◌≡◌, ℕ, inl, inr, true, false, List, [], ◌∷◌, ◌++◌, length, map, Some, sym, ap, ◌∙◌}
use Rattle.std.proofs.Common.{append_assoc, append-nil}
use Rattle.std.proofs.lemmas.List.{length-map}
use Rattle.csn_desc.specs.Nodes.{DescV}
use Rattle.csn_fields.specs.declared.event.Event.{Event}
use Rattle.csn_fields.specs.declared.refusal.Ended.{Ended}
use Rattle.csn_fields.specs.Events.{Told}
use Rattle.csn_fields.specs.Reading.{EndsTold}
use Rattle.csn_rule.specs.declared.event.FlatEvent.{FlatEvent}
use Rattle.csn_rule.specs.Buffers.{copied}
use Rattle.csn_rule.specs.FlatEvents.{EventsV, Lists, Copies, ListsBlock, TellsBlock, flat_of}

-- nothing is added where memory was wanting
stays_short : (events : List Event) (old new : EventsV) → Told Lists events old new → old.short ≡ true → new.short ≡ true
stays_short [] old new same on = ap (λ (l : EventsV). l.short) same ∙ on
stays_short (event ∷ rest) old new (next, inl adds, told) on = let clash : true ≡ false = sym on ∙ adds.0 in absurd (cc)
stays_short (event ∷ rest) old new (next, inr short, told) on = stays_short rest next new told short

-- the events stand behind those before, unless memory was wanting
listed : (events : List Event) (old new : EventsV) → Told Lists events old new → new.short ≡ false
    → new.events ≡ old.events ++ map flat_of events
listed [] old new same off = ap (λ (l : EventsV). l.events) same ∙ sym (append-nil old.events)
listed (event ∷ rest) old new (next, inl adds, told) off =
    listed rest next new told off
    ∙ ap (λ (l : EventsV). l.events ++ map flat_of rest) adds.1
    ∙ append_assoc old.events (flat_of event ∷ []) (map flat_of rest)
listed (event ∷ rest) old new (next, inr short, told) off =
    let clash : true ≡ false = sym (stays_short rest next new told short) ∙ off in absurd (cc)

-- what was told from no events on
pub lists_block : (d : DescV) (block : List ℕ) (ended : Ended) (old new : EventsV) → old ≡ record { events = []; short = false }
    → EndsTold Lists d block [] old new ended → ListsBlock d block ended new
lists_block d block ended old new none ends =
    record {
      events = ends.more;
      ends = ends.ends;
      are = λ off. listed ends.more old new ends.told off ∙ ap (λ (l : EventsV). l.events ++ map flat_of ends.more) none;
    }

-- and copied
pub tells_block : (d : DescV) (block : List ℕ) (ended : Ended) (list : EventsV) (count : ℕ) (old new : List FlatEvent)
    → ListsBlock d block ended list → Copies list old new (Some count) → TellsBlock d block ended count old new
tells_block d block ended list count old new lists copies =
    let are = lists.are copies.0 in
    record {
      events = lists.events;
      ends = lists.ends;
      counted = copies.1 ∙ ap length are ∙ length-map lists.events flat_of;
      there = copies.2 ∙ ap (λ l. copied l old) are;
    }
