use Rattle.std.proofs.Common.{◌≡◌, ℕ, ◌<◌, ◌≤◌, Bool, List, length, get_or, IsTrue, ◌↔◌, ap, sym, subst}
use Rattle.csn_desc.specs.Nodes.{DescV}
use Rattle.csn_look.specs.declared.following.Following.{Following}
use Rattle.csn_look.specs.declared.symbol_set.Sign.{Sign}
use Rattle.csn_look.specs.declared.symbol_set.Sign.TheVariants.{Zero, One, End}
use Rattle.csn_look.specs.FollowV.{IsFollowOf, signs_at}
use Rattle.csn_look.specs.Reached.{InFollow}
use Rattle.csn_look.specs.ReachV.{ReachV}
use Rattle.csn_look.specs.Signs.{has_sign, bit_of_sign}
use Rattle.csn_look.proofs.Basics.Puts.{read_through}
use Rattle.csn_look.proofs.Handing.FollowedParts.{known_follow, says_sign}
use Rattle.csn_look.proofs.Sets.Telling.{is_so}
use Rattle.csn_look.proofs.reach.Reach.may_follow.Goals as goal

-- what is kept of the node says whether the sign may follow it
told :
    (d : DescV) (items table : List Following) (node octet : ℕ) (found : Following) (sign kind : Sign) (b : Bool)
    → items ≡ table → node < length table → found ≡ get_or items node found → IsFollowOf d table → octet ≤ 7
    → sign ≡ kind → b ≡ has_sign (signs_at found octet) kind
    → IsTrue b ↔ InFollow d node octet (bit_of_sign sign)
told d items table node octet found sign kind b same inside at t low is e =
    subst (λ (s : Sign). IsTrue b ↔ InFollow d node octet (bit_of_sign s)) (sym is)
    (is_so e (says_sign found (InFollow d node) octet kind low (known_follow d table node found t (read_through items table node found same inside at))))

pub returns-in-Zero : goal.returns-in-Zero
returns-in-Zero c = λ d table. told d c.self.inside.follow.items c.args.self.now.follow c.args.node c.args.octet
    c.index.result.now c.args.sign Zero c.has.result (ap (λ (r : ReachV). r.follow) c.self.view_is)
    c.requires.node c.index.ensures table c.requires.octet c.in-Zero.is c.has.ensures

pub returns-in-One : goal.returns-in-One
returns-in-One c = λ d table. told d c.self.inside.follow.items c.args.self.now.follow c.args.node c.args.octet
    c.index.result.now c.args.sign One c.has-in-One.result (ap (λ (r : ReachV). r.follow) c.self.view_is)
    c.requires.node c.index.ensures table c.requires.octet c.in-One.is c.has-in-One.ensures

pub returns-in-End : goal.returns-in-End
returns-in-End c = λ d table. told d c.self.inside.follow.items c.args.self.now.follow c.args.node c.args.octet
    c.index.result.now c.args.sign End c.has-in-End.result (ap (λ (r : ReachV). r.follow) c.self.view_is)
    c.requires.node c.index.ensures table c.requires.octet c.in-End.is c.has-in-End.ensures
