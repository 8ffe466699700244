-- What is known of a file that was read (`may_have`), and of one that was too long to read
-- (`long_content`).
use Rattle.std.proofs.Common.{◌≡◌, ℕ, ◌+◌, ◌<◌, List, Option, Some, None, length, replicate, refl, inl, inr, arith}
use Rattle.std.proofs.lemmas.List.{length-replicate}
use Rattle.fux_port.specs.Files.{file_of, HasFile, IsMissing}
use Rattle.class_marker.specs.declared.one.Text.TheVariants.{TooLong}
use Rattle.works.specs.Works.{Files, IsRead, MayHave}

long_file : (limit : ℕ) (files : Files) (name : List ℕ) (told : Option (Option (List ℕ)))
    → file_of files name ≡ told → (IsMissing files name → ⊥)
    → ((file : List ℕ) → HasFile files name file → limit < length file) → IsRead limit files name TooLong
long_file limit files name None is here long = record {
  bytes = replicate (limit + 1) 0;
  had = inl is;
  content = rw length-replicate (omega arith);
}
long_file limit files name (Some None) is here long = absurd (here is)
long_file limit files name (Some (Some file)) is here long = record {
  bytes = file;
  had = inr is;
  content = long file is;
}

-- a file that is there and has more bytes than are read
pub long_content : (limit : ℕ) (files : Files) (name : List ℕ) → (IsMissing files name → ⊥)
    → ((file : List ℕ) → HasFile files name file → limit < length file) → IsRead limit files name TooLong
long_content limit files name here long = long_file limit files name (file_of files name) refl here long

told_bytes : (files : Files) (name bytes : List ℕ) (told : Option (Option (List ℕ))) → file_of files name ≡ told
    → (IsMissing files name → ⊥) → ((file : List ℕ) → HasFile files name file → bytes ≡ file) → MayHave files name bytes
told_bytes files name bytes None is here same = inl is
told_bytes files name bytes (Some None) is here same = absurd (here is)
told_bytes files name bytes (Some (Some file)) is here same = inr (rw (same file is) is)

-- bytes that were read of a file that is there
pub may_have : (files : Files) (name bytes : List ℕ) → (IsMissing files name → ⊥)
    → ((file : List ℕ) → HasFile files name file → bytes ≡ file) → MayHave files name bytes
may_have files name bytes here same = told_bytes files name bytes (file_of files name) refl here same
