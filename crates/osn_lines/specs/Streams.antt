-- What is known of a stream that is read, and of one that is written, before and after.
use Rattle.std.specs.Prelude.{ℕ, Bool, List, Option}

-- a source: the bytes that remained before and that remain now, and whether a read had failed
-- before, and has failed now
pub record Input : Type 0 where
  pub bytes : Option (List ℕ)
  pub rest : Option (List ℕ)
  pub unread_before : Bool
  pub unread : Bool

-- a sink: what it contained before and contains now, whether a write had failed before, and has
-- failed now, and whether it holds bytes back
pub record Output : Type 0 where
  pub old : Option (List ℕ)
  pub new : Option (List ℕ)
  pub unwritten_before : Bool
  pub unwritten : Bool
  pub holds_back : Bool

-- what is known of a source, by its ghosts: the bytes that remain, and whether a read has failed
abbrev pub input_of : {S : Type 0} → (S → Option (List ℕ)) → (S → Bool) → S → S → Input
input_of remaining has_failed old new = record {
  bytes = remaining old;
  rest = remaining new;
  unread_before = has_failed old;
  unread = has_failed new;
}

-- what is known of a sink, by its ghosts: what it contains, whether a write has failed, and whether
-- it holds bytes back
abbrev pub output_of : {S : Type 0} → (S → Option (List ℕ)) → (S → Bool) → (S → Bool) → S → S
    → Output
output_of contents has_failed holds_back old new = record {
  old = contents old;
  new = contents new;
  unwritten_before = has_failed old;
  unwritten = has_failed new;
  holds_back = holds_back new;
}
