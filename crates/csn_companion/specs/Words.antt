-- The words by which something is asked of the companion. (This project's own choice.)
use Rattle.std.specs.Prelude.{ℕ, List, codes}
use Rattle.csn_desc.specs.declared.reading.Reading.{Reading}
use Rattle.csn_desc.specs.declared.reading.Reading.TheVariants.{Received, Sent}
use Rattle.csn_companion.specs.declared.asked.Job.{Job}
use Rattle.csn_companion.specs.declared.asked.Job.TheVariants.{Check, Nodes, Fields, Show, Picture, Write, Blocks, Cover, Nearly}

-- the word that asks for a job
abbrev pub job_word : Job → List ℕ
job_word Check = codes "check"
job_word Nodes = codes "nodes"
job_word Fields = codes "fields"
job_word Show = codes "show"
job_word Picture = codes "picture"
job_word Write = codes "write"
job_word (Blocks order) = codes "blocks"
job_word Cover = codes "cover"
job_word Nearly = codes "nearly"

-- the word for a reading
abbrev pub reading_word : Reading → List ℕ
reading_word Received = codes "received"
reading_word Sent = codes "sent"
