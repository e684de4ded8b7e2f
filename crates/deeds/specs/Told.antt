-- What is printed for an event, as the code answers it and as the definitions say it.
use Rattle.group.specs.Answers.{Said, said, refused}
use Rattle.deeds.specs.declared.Reply.{Reply}
use Rattle.deeds.specs.declared.Reply.TheVariants as reply

-- what is printed for an event: a call's answer, 3 and 14 among the refusals, or one of the bench's own two
pub data Told : Type 0 where
  call : Said → Told
  announced armed : Told

abbrev pub told : Reply → Told
told (reply.Refused n) = call (refused n)
told reply.Announced = announced
told reply.Armed = armed
told (reply.Head a) = call (said a)
