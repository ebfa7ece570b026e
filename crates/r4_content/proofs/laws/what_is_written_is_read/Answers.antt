use Rattle.r4_content.proofs.Naming.{create_stat, mkdir_stat}
use Rattle.r4_content.proofs.Unnaming.{unlink_stat}
use Rattle.r4_content.proofs.Writing.{fill_read, truncate_stat, write_read}
use Rattle.r4_content.proofs.laws.what_is_written_is_read.Goals as goal

pub returns : goal.returns
returns c = record {
  write = λ limit path offset text m numbers bytes le okay. write_read limit path offset text m numbers le bytes okay;
  fill = λ limit path offset len byte m numbers bytes le okay. fill_read limit path offset len byte m numbers le bytes okay;
  truncate = λ limit path size m numbers bytes le okay. truncate_stat limit path size m numbers le bytes okay;
  create = λ limit path oid m numbers bytes unused okay. create_stat limit path oid m numbers bytes unused okay;
  mkdir = λ limit path oid m numbers bytes unused okay. mkdir_stat limit path oid m numbers bytes unused okay;
  unlink = λ limit path m numbers bytes okay. unlink_stat limit path m numbers bytes okay;
}
