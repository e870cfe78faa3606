-- What a trace notes of a call.
use Rattle.std.specs.Prelude.{◌≡◌, List, [], ◌∷◌, ◌++◌, map, Ok, Err, Result}
use Rattle.layout.specs.declared.refusal.Refusal.{Refusal}
use Rattle.machine.specs.Command.{Reply as Response, Done as IsDone, Number as IsNumber, Bytes as AreBytes, Listed, Status as IsStatus, Attributes as AreAttributes, Image as IsImage}
use Rattle.live_paths.specs.Listed.{name_of}
use Rattle.snapshot.specs.declared.command.Command.{Command}
use Rattle.snapshot.specs.declared.answer.Answer.{Answer}
use Rattle.snapshot.specs.declared.answer.Answer.TheVariants.{Done, Number, Bytes, Names, Status, Attributes, Image}
use Rattle.snapshot.specs.Asked.{IsReply}
use Rattle.shared.specs.declared.entry.Entry.{Entry}

-- A reply is noted as it is, its bytes and names in copies, but for the image of a freeze, of which the number is noted.
abbrev pub Notes : Result Answer Refusal → Result Answer Refusal → Type 0
Notes (Ok (Bytes bytes)) (Ok (Bytes copy)) = copy.items ≡ bytes.items
Notes (Ok (Names names)) (Ok (Names copy)) = map name_of copy.items ≡ map name_of names.items
Notes (Ok (Image number frozen)) noted = noted ≡ Ok (Number number)
Notes (Ok Done) noted = noted ≡ Ok Done
Notes (Ok (Number n)) noted = noted ≡ Ok (Number n)
Notes (Ok (Status status)) noted = noted ≡ Ok (Status status)
Notes (Ok (Attributes words)) noted = noted ≡ Ok (Attributes words)
Notes (Err r) noted = noted ≡ Err r
Notes _ _ = ⊥

-- and so a reply of the machine is noted
abbrev pub noted_of : Response → Response
noted_of (Ok (IsImage n view)) = Ok (IsNumber n)
noted_of (Ok IsDone) = Ok IsDone
noted_of (Ok (IsNumber n)) = Ok (IsNumber n)
noted_of (Ok (AreBytes bytes)) = Ok (AreBytes bytes)
noted_of (Ok (Listed names)) = Ok (Listed names)
noted_of (Ok (IsStatus i mode links size)) = Ok (IsStatus i mode links size)
noted_of (Ok (AreAttributes words)) = Ok (AreAttributes words)
noted_of (Err r) = Err r

abbrev pub IsNoted : Result Answer Refusal → Response → Type 0
IsNoted noted response = IsReply noted (noted_of response)

-- One entry was added: the command, and what is noted of the reply.
pub record AddsEntry (old new : List Entry) (command : Command) (reply : Result Answer Refusal) : Type 0 where
  pub entry : Entry
  pub added : new ≡ old ++ entry ∷ []
  pub command_is : entry.command ≡ command
  pub reply_is : Notes reply entry.reply
