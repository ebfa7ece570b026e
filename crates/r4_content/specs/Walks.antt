-- The replies that tell where a walk ends (docs/commands.md, "Ways").
use Rattle.r4_content.specs.Walk.{Walked, At, NoName, NoDirectory, NoEntry}
use Rattle.r4_content.specs.declared.reply.Reply.{Reply}
use Rattle.r4_content.specs.declared.reply.Reply.TheVariants.{Attr, Name, Notdir, Absent}

abbrev pub walk_reply : Walked → Reply
walk_reply (At o a) = Attr a
walk_reply NoName = Name
walk_reply NoDirectory = Notdir
walk_reply NoEntry = Absent
