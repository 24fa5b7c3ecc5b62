-- What the files of a folder are called.
use Rattle.std.specs.Prelude.{ℕ, List, ◌++◌, ◌≡◌, codes, decimal}
use Rattle.lt_filedev.specs.declared.names.Name.{Name}
use Rattle.lt_filedev.specs.declared.names.Name.TheVariants.{File, Unentered, Descriptor, NextDescriptor, Lock}

abbrev pub name_text : Name → List ℕ
name_text (File number) = decimal number
name_text (Unentered number) = codes "vashmoon-" ++ decimal number ++ codes ".new"
name_text Descriptor = codes "DESCRIPTOR"
name_text NextDescriptor = codes "vashmoon-descriptor.new"
name_text Lock = codes "LOCK"

-- the names that a stopped run leaves of files that were never entered: such a file's own, or a second one of an entered file
pub data IsLeftOver (name : List ℕ) : Type 0 where
  begun : (number : ℕ) → name ≡ name_text (Unentered number) → IsLeftOver name
  next : name ≡ name_text NextDescriptor → IsLeftOver name
