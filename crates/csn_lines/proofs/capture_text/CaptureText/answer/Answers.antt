use Rattle.std.proofs.Common.{◌≡◌, ℕ, List, [], Some, codes, set, slice_get, refl, sym, ◌∙◌, subst, arith}
use Rattle.csn_catalogue.specs.declared.entry.Entry.{Entry}
use Rattle.csn_catalogue.specs.Entries.{entry_place}
use Rattle.csn_json.specs.declared.form.TreeForm.{TreeForm}
use Rattle.csn_json.specs.declared.form.TreeForm.TheVariants.{Text}
use Rattle.csn_movetext.specs.Lines.{ReadsLine}
use Rattle.csn_replay.specs.Head.{HeadOf, block_so_far}
use Rattle.csn_replay.specs.declared.head.CaptureHead.{CaptureHead}
use Rattle.csn_replay.specs.declared.head.CaptureHead.TheVariants.{Block}
use Rattle.csn_lines.specs.Language.{of_plan}
use Rattle.csn_lines.specs.OutLine.{ShowsAs}
use Rattle.csn_lines.specs.Replaying.{ReadsCapture, taken_at}
use Rattle.csn_lines.proofs.CaptureLemmas.{answers_block, answers_none, begins_after, begins_behind, same_descs, seven_texts, taken_by, writer_at}
use Rattle.csn_lines.proofs.ProgressLemmas.{OnErr-from}
use Rattle.csn_lines.proofs.capture_text.CaptureText.answer.Goals as goal

pub returns-in_default : goal.returns-in_default
returns-in_default c =
    let head = c.args.self.now.head in
    let not_block : (entry : Entry) → head ≡ Block entry → ⊥ = λ entry is. c.in_default.not-Block entry (c.replace-head.ensures.value ∙ is) in
    let next : HeadOf c.replace-head.new.dest [] = subst (λ (h : CaptureHead). HeadOf h []) (sym c.replace-head.ensures.after) c.new.ensures in
    record {
      ok = λ line reads. (
        codes "bad 5",
        c.in_ok-extend_from_slice.ensures.items,
        answers_none c.heads_tell_captures.ensures _ head line reads.head_is not_block,
        refl,
      );
      anew = λ line reads. begins_after c.args.self.now.writers.items head c.replace-head.new.dest line reads not_block next;
      descs = refl;
      err = tt;
    }

pub invariant_of-self-2 : goal.invariant_of-self-2
invariant_of-self-2 c =
    let kept = seven_texts c.args.self.now.writers.items c.place_of.result c.index_mut.result.now
    c.answer_line.new.text c.args.self.now.all c.place_of.ensures.within c.index_mut.ensures.value
    c.answer_line.ensures.form c.args.self.now.texts in record { all = kept.0; texts = kept.1 }

pub returns-in_err-answered-clause-descs : goal.returns-in_err-answered-clause-descs
returns-in_err-answered-clause-descs c =
    same_descs c.args.self.now.writers.items c.place_of.result c.index_mut.result.now c.answer_line.new.text
    c.args.self.now.all c.place_of.ensures.within c.index_mut.ensures.value c.answer_line.ensures.desc

pub returns-in_err-answered-clause-err : goal.returns-in_err-answered-clause-err
returns-in_err-answered-clause-err c = OnErr-from c.from_residual-in_err-answered.result (λ line reads.
    let writers = c.args.self.now.writers.items in
    let here = writer_at writers c.place_of.result c.index_mut.result.now
    (omega (arith, c.place_of.ensures.within, c.args.self.now.all)) c.index_mut.ensures.value in
    c.in_err-answered.ensures.err (taken_at c.args.self.now.head line c.place_of.result) (reads.each c.place_of.result c.index_mut.result.now here))

pub returns-clause-ok : goal.returns-clause-ok
returns-clause-ok c = λ line reads.
    let writers = c.args.self.now.writers.items in
    let old = c.index_mut.result.now in
    let entry = c.in-Block.entry in
    let place : c.place_of.result ≡ entry_place entry = c.place_of.ensures.place in
    let at : slice_get writers c.place_of.result ≡ Some old =
    writer_at writers c.place_of.result old (omega (arith, c.place_of.ensures.within, c.args.self.now.all)) c.index_mut.ensures.value in
    let here : slice_get writers (entry_place entry) ≡ Some old = subst (λ (n : ℕ). slice_get writers n ≡ Some old) place at in
    let is : Block entry ≡ c.args.self.now.head = c.in-Block.ensures.value in
    let reads_block : ReadsCapture writers (Block entry) line = subst (λ (h : CaptureHead). ReadsCapture writers h line) (sym is) reads in
    let taken : ReadsLine old (block_so_far (Block entry) line) = subst (λ (l : List ℕ). ReadsLine old l)
    (taken_by entry line) (reads_block.each (entry_place entry) old here) in
    let told = c.in_ok-answered.ensures.ok (block_so_far (Block entry) line) taken in
    let only = c.heads_tell_captures.ensures (Block entry) line reads_block.head_is in
    let form : old.form ≡ Text = c.args.self.now.texts c.place_of.result old at in
    let shows : ShowsAs Text (of_plan old.desc) (block_so_far (Block entry) line) told.0 c.in_ok-answered.bits =
    subst (λ (f : TreeForm). ShowsAs f (of_plan old.desc) (block_so_far (Block entry) line) told.0 c.in_ok-answered.bits) form told.2 in (
      told.0,
      told.1,
      rw c.seen_of.ensures (answers_block writers entry old line told.0 c.in_ok-answered.bits c.in_ok-answered.answered here only shows told.3),
      told.3,
    )

pub returns-clause-anew : goal.returns-clause-anew
returns-clause-anew c = λ line reads.
    let writers = c.args.self.now.writers.items in
    let entry = c.in-Block.entry in
    let is : Block entry ≡ c.args.self.now.head = c.in-Block.ensures.value in
    let reads_block : ReadsCapture writers (Block entry) line = subst (λ (h : CaptureHead). ReadsCapture writers h line) (sym is) reads in
    let next : HeadOf c.replace-head.new.dest [] = subst (λ (h : CaptureHead). HeadOf h []) (sym c.replace-head.ensures.after) c.new.ensures in
    subst (λ (n : ℕ). ReadsCapture (set writers n c.answer_line.new.text) c.replace-head.new.dest []) (sym c.place_of.ensures.place)
    (begins_behind writers entry line c.replace-head.new.dest c.answer_line.new.text reads_block next c.in_ok-answered.ensures.anew)

pub returns-clause-descs : goal.returns-clause-descs
returns-clause-descs c = same_descs c.args.self.now.writers.items c.place_of.result c.index_mut.result.now
    c.answer_line.new.text c.args.self.now.all c.place_of.ensures.within c.index_mut.ensures.value
    c.answer_line.ensures.desc
