use Rattle.std.proofs.Common.{◌≡◌, ℕ, List, Some, ◌++◌, drop, length, set, slice_get, refl, sym, ap, subst, arith}
use Rattle.std.proofs.lemmas.List.{length-drop}
use Rattle.csn_catalogue.specs.Entries.{entry_place}
use Rattle.csn_movetext.specs.Lines.{ReadsLine}
use Rattle.csn_replay.specs.Head.{HeadOf, block_so_far}
use Rattle.csn_replay.specs.declared.head.CaptureHead.{CaptureHead}
use Rattle.csn_replay.specs.declared.head.CaptureHead.TheVariants.{Block}
use Rattle.csn_lines.specs.Replaying.{ReadsCapture}
use Rattle.csn_lines.proofs.CaptureLemmas.{block_goes_on, head_goes_on, same_descs, seven_texts, taken_few, writer_at}
use Rattle.csn_replay.proofs.Puts.{slice_from}
use Rattle.csn_lines.proofs.capture_text.CaptureText.take.Goals as goal

pub take-requires : goal.take-requires
take-requires c =
    let here = writer_at c.args.self.now.writers.items c.place_of.result c.index_mut.result.now
    (omega (arith, c.place_of.ensures.within, c.args.self.now.all)) c.index_mut.ensures.value in
    let line = c.requires.0 in
    let taken = c.requires.1.each c.place_of.result c.index_mut.result.now here in
    let few = taken_few c.args.self.now.head line c.place_of.result in
    record {
      few =
          omega (
            arith,
            taken.count,
            few,
            c.requires.2,
            ap length (slice_from c.take-from.result c.args.bytes.now),
            length-drop c.take-from.result c.args.bytes.now,
          );
    }

pub invariant_of-self : goal.invariant_of-self
invariant_of-self c =
    let kept = seven_texts c.args.self.now.writers.items c.place_of.result c.index_mut.result.now c.take.new.self
    c.args.self.now.all c.place_of.ensures.within c.index_mut.ensures.value c.take.ensures.form
    c.args.self.now.texts in record { all = kept.0; texts = kept.1 }

pub returns-in-Block-clause-reads : goal.returns-in-Block-clause-reads
returns-in-Block-clause-reads c = λ line reads.
    let writers = c.args.self.now.writers.items in
    let old = c.index_mut.result.now in
    let new = c.take.new.self in
    let entry = c.in-Block.entry in
    let from = c.take-from.result in
    let bytes : List ℕ = c.args.bytes.now in
    let place : c.place_of.result ≡ entry_place entry = c.place_of.ensures.place in
    let at : slice_get writers c.place_of.result ≡ Some old =
    writer_at writers c.place_of.result old (omega (arith, c.place_of.ensures.within, c.args.self.now.all)) c.index_mut.ensures.value in
    let here : slice_get writers (entry_place entry) ≡ Some old = subst (λ (n : ℕ). slice_get writers n ≡ Some old) place at in
    let is : c.take-from.new.self ≡ Block entry = c.in-Block.is in
    let head : HeadOf (Block entry) (line ++ bytes) = subst (λ (h : CaptureHead). HeadOf h (line ++ bytes)) is (c.take-from.ensures.head line reads.head_is) in
    let block : block_so_far (Block entry) (line ++ bytes) ≡ block_so_far c.args.self.now.head line ++ drop from bytes =
    subst (λ (h : CaptureHead). block_so_far h (line ++ bytes) ≡ block_so_far c.args.self.now.head line ++ drop from
    bytes) is (c.take-from.ensures.block line reads.head_is) in
    let takes : (l : List ℕ) → ReadsLine old l → ReadsLine new (l ++ drop from bytes) =
    λ l r. subst (λ (b : List ℕ). ReadsLine new (l ++ b)) (slice_from from bytes) (c.take.ensures.reads l r) in
    let now : ReadsCapture (set writers (entry_place entry) new) (Block entry) (line ++ bytes) =
    block_goes_on c.heads_tell_captures.ensures line bytes entry head writers c.args.self.now.head (drop from bytes) old new reads block here takes in
    subst (λ (n : ℕ). ReadsCapture (set writers n new) c.take-from.new.self (line ++ bytes)) (sym place)
    (subst (λ (h : CaptureHead). ReadsCapture (set writers (entry_place entry) new) h (line ++ bytes)) (sym is) now)

pub returns-in-Block-clause-descs : goal.returns-in-Block-clause-descs
returns-in-Block-clause-descs c = same_descs c.args.self.now.writers.items c.place_of.result c.index_mut.result.now
    c.take.new.self c.args.self.now.all c.place_of.ensures.within c.index_mut.ensures.value c.take.ensures.desc

pub returns-in_default : goal.returns-in_default
returns-in_default c = record {
  reads = λ line reads.
      head_goes_on c.args.self.now.writers.items c.args.self.now.head c.take-from.new.self line c.args.bytes.now
      (drop c.take-from.result c.args.bytes.now) reads (c.take-from.ensures.head line reads.head_is)
      (c.take-from.ensures.block line reads.head_is) c.in_default.not-Block;
  descs = refl;
}
