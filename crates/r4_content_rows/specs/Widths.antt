-- Attributes that stat data hold (docs/layout.md, "Items").
use Rattle.r4_base.specs.Bytes.{FieldsFit}
use Rattle.r4_base.specs.Stat.{stat_fields}
use Rattle.r4_base.specs.Value.{Content}
use Rattle.r4_base.specs.Volume.{HasStat}
use Rattle.r4_base.specs.declared.items.Attr.{Attr}
use Rattle.r4_base.specs.declared.items.Target.{Target}
use Rattle.r4_content.specs.Meaning.{after, greatest_size}
use Rattle.r4_content.specs.declared.command.Command.{Command}
use Rattle.r4_content_rows.specs.Conditions.{empty_file}

-- each attribute of each object is a number of its field's width
abbrev pub AllFit : Content → Type 0
AllFit m = (o : Target) (a : Attr) → HasStat m o a → FieldsFit (stat_fields a)

-- on a root with a file without bytes, the command sets an attribute that does not fit
abbrev pub PassesField : Command → Type 0
PassesField c = AllFit (after greatest_size c empty_file) → ⊥
