-- How many steps a draw takes.
use Rattle.std.specs.Prelude.{◌≡◌, ℕ, suc, ◌+◌, ◌*◌, ◌≤◌, length}
use Rattle.std.proofs.Common.{arith, mul-le-mul_left, mul-le-mul_right, subst, suc-mul}
use Rattle.csn_desc.specs.Nodes.{DescV}
use Rattle.csn_sample.specs.declared.wish.Length.{Length}
use Rattle.csn_sample.specs.declared.wish.Length.TheVariants.{Exactly, AtMost}
use Rattle.csn_sample.specs.Samples.{Fits, most_of, begun, work}

-- bits that are as many as was asked for are no more than the most
pub fits_most : (asked : Length) (bits : ℕ) → Fits asked bits → bits ≤ most_of asked
fits_most (Exactly wanted) bits fits = omega (arith, fits)
fits_most (AtMost most) bits fits = fits

-- the steps of a draw, and then those of its judge
pub draw_and_judge : (asked : Length) (nodes planned bits before drawn after : ℕ)
    → planned ≡ nodes → Fits asked bits
    → drawn ≤ before + begun nodes (most_of asked) → after ≤ drawn + 8 * planned * (bits + 1)
    → after ≤ before + work nodes (most_of asked)
draw_and_judge asked nodes planned bits before drawn after n fits draws judges =
    let few : bits ≤ most_of asked = fits_most asked bits fits in
    let shorter : bits + 1 ≤ most_of asked + 1 = omega (arith, few) in
    let longer : 8 * nodes * (bits + 1) ≤ 8 * nodes * (most_of asked + 1) = mul-le-mul_left (8 * nodes) shorter in
    let judged : after ≤ drawn + 8 * nodes * (bits + 1) =
    subst (λ (k : ℕ). after ≤ drawn + 8 * k * (bits + 1)) n judges in
    omega (arith, draws, judged, longer)

-- ---- the turns of a search

-- the steps of a draw of a block of at most so many bits
pub one_drawn : (planned desc : DescV) (asked : Length) (most before after : ℕ)
    → planned ≡ desc → asked ≡ AtMost most → after ≤ before + work (length planned.nodes) (most_of asked)
    → after ≤ before + work (length desc.nodes) most
one_drawn planned desc asked most before after same is steps =
    subst (λ (d : DescV). after ≤ before + work (length d.nodes) most) same
    (subst (λ (l : Length). after ≤ before + work (length planned.nodes) (most_of l)) is steps)

one_more : (turn each : ℕ) → (turn + 1) * each ≡ turn * each + each
one_more turn each = let next : turn + 1 ≡ suc turn = omega arith in rw next (suc-mul turn each)

-- a draw, and then another way has its turn
pub turn_done : (nodes one each turn start before drawn after : ℕ) → each ≡ one + 2 * nodes
    → before ≤ start + 3 * nodes + turn * each → drawn ≤ before + one → after ≤ drawn + 2 * nodes
    → after ≤ start + 3 * nodes + (turn + 1) * each
turn_done nodes one each turn start before drawn after is begin draws goes =
    omega (arith, is, begin, draws, goes, one_more turn each)

-- all turns are no more than there may be
pub turns_within : (nodes each turns many start now : ℕ) → turns ≤ many → now ≤ start + 3 * nodes + turns * each
    → now ≤ start + 3 * nodes + many * each
turns_within nodes each turns many start now few steps =
    let all : turns * each ≤ many * each = mul-le-mul_right each few in
    omega (arith, steps, all)
