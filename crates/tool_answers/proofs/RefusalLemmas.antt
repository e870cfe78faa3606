-- What the machine refuses on the image of which this is kept.
use Rattle.std.proofs.Common.{ℕ, List, Err}
use Rattle.frozen.specs.Kept.{IsKeptOf, Kept}
use Rattle.layout.specs.declared.refusal.Refusal.{Refusal}
use Rattle.machine.specs.Command.{Command}
use Rattle.reading.specs.Replies.{Replies}
use Rattle.tool_answers.specs.Told.{IsRefused}

pub refused_there : {kept : Kept} {image : List (List ℕ)} {command : Command} {refusal : Refusal} → Replies kept command (Err refusal) → IsKeptOf kept image → IsRefused image command refusal
refused_there {kept} {image} replies is = record { geometry = kept.geometry; is_image = is.is_image; refuses = replies image is }
