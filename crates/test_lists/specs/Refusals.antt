-- Which answers refuse a line, and which requests leave the volume as it is.
use Rattle.std.specs.Prelude.{Bool, true, false}
use Rattle.test_lists.specs.declared.answer.Answer.{Answer}
use Rattle.test_lists.specs.declared.answer.Answer.TheVariants.{NoCommand, Refused}
use Rattle.test_lists.specs.declared.request.Request.{Request}
use Rattle.test_lists.specs.declared.request.Request.TheVariants.{Command, Install}

-- the line was not carried out
abbrev pub is_refusal : Answer → Bool
is_refusal (Refused _) = true
is_refusal NoCommand = true
is_refusal _ = false

-- it only tells what the volume is, or checks what was frozen of it
abbrev pub asks_only : Request → Bool
asks_only (Command _) = false
asks_only Install = false
asks_only _ = true
