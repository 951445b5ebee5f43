use Rattle.csn_good.proofs.Faulting.{fault_nullable, fault_ends, fault_start, fault_keys, fault_reached, fault_follow, fault_apart}
use Rattle.csn_good.proofs.EndsTold.{denied}
use Rattle.csn_good.proofs.checking.broken_rule.Goals as goal

pub returns-then-not-keeps_nullable : goal.returns-then-not-keeps_nullable
returns-then-not-keeps_nullable c =
    record {
      some = fault_nullable c.args.desc.now c.args.c.now c.requires.number c.args.i c.args.node.now
          c.requires.node (denied (c.keeps_nullable.ensures c.args.desc.now) c.if-not-keeps_nullable.true);
      none = tt;
    }

pub returns-then-not-keeps_ends : goal.returns-then-not-keeps_ends
returns-then-not-keeps_ends c =
    record {
      some = fault_ends c.args.desc.now c.args.c.now c.requires.number c.args.i c.args.node.now c.requires.node
          ((c.keeps_nullable.ensures c.args.desc.now).0 c.if-not-keeps_nullable.false)
          (denied c.keeps_ends.ensures c.if-not-keeps_ends.true);
      none = tt;
    }

pub returns-then-not-keeps_start : goal.returns-then-not-keeps_start
returns-then-not-keeps_start c =
    record {
      some = fault_start c.args.desc.now c.args.c.now c.requires.number c.args.i c.args.node.now
          c.requires.node ((c.keeps_nullable.ensures c.args.desc.now).0 c.if-not-keeps_nullable.false)
          (c.keeps_ends.ensures.0 c.if-not-keeps_ends.false) (denied c.keeps_start.ensures c.if-not-keeps_start.true);
      none = tt;
    }

pub returns-then-not-branch : goal.returns-then-not-branch
returns-then-not-branch c =
    record {
      some = fault_keys c.args.desc.now c.args.c.now c.requires.number c.args.i c.args.node.now c.requires.node
          ((c.keeps_nullable.ensures c.args.desc.now).0 c.if-not-keeps_nullable.false)
          (c.keeps_ends.ensures.0 c.if-not-keeps_ends.false) (c.keeps_start.ensures.0 c.if-not-keeps_start.false)
          (denied c.in_ok-keeps_keys.ensures c.if-not-branch.true);
      none = tt;
    }

pub returns-then-not-keeps_reached : goal.returns-then-not-keeps_reached
returns-then-not-keeps_reached c =
    record {
      some = fault_reached c.args.desc.now c.args.c.now c.requires.number c.args.i c.args.node.now
          c.requires.node ((c.keeps_nullable.ensures c.args.desc.now).0 c.if-not-keeps_nullable.false)
          (c.keeps_ends.ensures.0 c.if-not-keeps_ends.false) (c.keeps_start.ensures.0 c.if-not-keeps_start.false)
          (c.in_ok-keeps_keys.ensures.0 c.if-not-branch.false) (denied (c.keeps_reached.ensures c.args.desc.now)
          c.if-not-keeps_reached.true);
      none = tt;
    }

pub returns-then-not-keeps_follow : goal.returns-then-not-keeps_follow
returns-then-not-keeps_follow c =
    record {
      some = fault_follow c.args.desc.now c.args.c.now c.requires.number c.args.i c.args.node.now
          c.requires.node ((c.keeps_nullable.ensures c.args.desc.now).0 c.if-not-keeps_nullable.false)
          (c.keeps_ends.ensures.0 c.if-not-keeps_ends.false) (c.keeps_start.ensures.0 c.if-not-keeps_start.false)
          (c.in_ok-keeps_keys.ensures.0 c.if-not-branch.false)
          ((c.keeps_reached.ensures c.args.desc.now).0 c.if-not-keeps_reached.false)
          (denied (c.keeps_follow.ensures c.args.desc.now) c.if-not-keeps_follow.true);
      none = tt;
    }

pub returns-then-not-branch-2-clause-some : goal.returns-then-not-branch-2-clause-some
returns-then-not-branch-2-clause-some c = fault_apart c.args.desc.now c.args.c.now c.requires.number c.args.i
    c.args.node.now c.requires.node ((c.keeps_nullable.ensures c.args.desc.now).0 c.if-not-keeps_nullable.false)
    (c.keeps_ends.ensures.0 c.if-not-keeps_ends.false) (c.keeps_start.ensures.0 c.if-not-keeps_start.false)
    (c.in_ok-keeps_keys.ensures.0 c.if-not-branch.false)
    ((c.keeps_reached.ensures c.args.desc.now).0 c.if-not-keeps_reached.false)
    ((c.keeps_follow.ensures c.args.desc.now).0 c.if-not-keeps_follow.false)
    (denied c.in_ok-keeps_apart.ensures c.if-not-branch-2.true)

pub returns : goal.returns
returns c = record {
  some = tt;
  none = record {
    nullable =
        ((c.keeps_nullable.ensures c.args.desc.now).0 c.if-not-keeps_nullable.false);
    ends =
        (c.keeps_ends.ensures.0 c.if-not-keeps_ends.false);
    start =
        (c.keeps_start.ensures.0 c.if-not-keeps_start.false);
    keys =
        (c.in_ok-keeps_keys.ensures.0 c.if-not-branch.false);
    reached =
        ((c.keeps_reached.ensures c.args.desc.now).0 c.if-not-keeps_reached.false);
    follow =
        ((c.keeps_follow.ensures c.args.desc.now).0 c.if-not-keeps_follow.false);
    apart =
        (c.in_ok-keeps_apart.ensures.0 c.if-not-branch-2.false);
  };
}

pub keeps_nullable-requires : goal.keeps_nullable-requires
keeps_nullable-requires c = record { node = c.requires.within; parts = c.requires.parts }

pub keeps_ends-requires : goal.keeps_ends-requires
keeps_ends-requires c = record { certificate = c.requires.certificate; node = c.requires.within; parts = c.requires.parts }

pub keeps_start-requires : goal.keeps_start-requires
keeps_start-requires c = record { certificate = c.requires.certificate; node = c.requires.within; parts = c.requires.parts }

pub keeps_keys-requires : goal.keeps_keys-requires
keeps_keys-requires c = record { certificate = c.requires.certificate; node = c.requires.within; parts = c.requires.parts }

pub keeps_reached-requires : goal.keeps_reached-requires
keeps_reached-requires c = record { certificate = c.requires.certificate; node = c.requires.within; parts = c.requires.parts }

pub keeps_follow-requires : goal.keeps_follow-requires
keeps_follow-requires c = record { certificate = c.requires.certificate; node = c.requires.within; parts = c.requires.parts }

pub keeps_apart-requires : goal.keeps_apart-requires
keeps_apart-requires c = record { certificate = c.requires.certificate; node = c.requires.within; number = c.requires.number; parts = c.requires.parts }
