use Rattle.r4_base.proofs.Names.{short_key, one_name, long_apart, dir_is, key_fits, bytes_of}
use Rattle.r4_cde.proofs.laws.name_law.Goals as goal

pub returns : goal.returns
returns c = record {
  short = short_key;
  one = λ dir s t bytes bytes'. one_name dir s t (bytes_of s bytes) (bytes_of t bytes');
  apart = λ dir other s t bytes bytes'. long_apart dir other s t (bytes_of s bytes) (bytes_of t bytes');
  directory = dir_is;
  numbers = λ dir s small bytes. key_fits dir s small (bytes_of s bytes);
}
