use Rattle.std.proofs.Common.{◌%◌, refl}
use Rattle.csn_look.proofs.Meaning.ShapeFacts.{shape_of}
use Rattle.csn_look.proofs.Meaning.KeyMeant.{key_meant, key_start}
use Rattle.csn_look.proofs.Meaning.NearFacts.{has_key}
use Rattle.csn_look.proofs.Meaning.KeyFollowed.{key_followed}
use Rattle.csn_look.proofs.laws.keys_are_of_bits.Goals as goal

pub returns-clause-some : goal.returns-clause-some
returns-clause-some c = λ d most i o n is at. let found = has_key d most (c.known.ensures.formed d i n is at).2 o in (found.word, found.mark, found.key)

pub returns-clause-whole : goal.returns-clause-whole
returns-clause-whole c = λ d most i o v word h. key_meant d most o (o % 8) v refl refl h

pub returns-clause-followed : goal.returns-clause-followed
returns-clause-followed c = λ d most seen round i o v b rest mark is_formed values h. c.prefixes_are_followed.ensures
    d i o v b rest (key_followed d most c.prefixes_are_followed.ensures c.empty_bits_are_followed.ensures.node
    c.known.ensures.there o (o % 8) v refl values is_formed h)

pub returns-clause-start : goal.returns-clause-start
returns-clause-start c = λ d most i o bit rest mark is h. key_start d most (shape_of c.known.ensures d is) o (o % 8) bit rest refl refl h
