use Rattle.std.proofs.Common.{refl}
use Rattle.osn_files.proofs.ReadLemmas.{made-all, no-head, first_version, given_version}
use Rattle.osn_files.proofs.ReadLemmas.{ended_early}
use Rattle.osn_files.proofs.reading.read_file.Goals as goal

pub returns-in-Some-clause-file : goal.returns-in-Some-clause-file
returns-in-Some-clause-file g c = record {
  made = made-all _ _ _ _ _ _ _ c.in-Some.is c.in-Ok.ensures.takes;
  end = c.in-Ok.ensures.end;
  sound = c.in-Ok.ensures.sound;
  fault = tt;
  reason = tt;
}

pub returns-in-None-clause-file : goal.returns-in-None-clause-file
returns-in-None-clause-file g c = record {
  made = tt;
  end = tt;
  sound = tt;
  fault = (refl, no-head _ _ _ _ _ _ c.in-None.is c.in-Ok.ensures.takes);
  reason = c.in-Ok.ensures.sound;
}

pub returns-in-Err-clause-file : goal.returns-in-Err-clause-file
returns-in-Err-clause-file g c =
    rw c.fault_of.ensures
    (ended_early _ _ _ _ _ c.args.role c.in-Err.end.lines c.in-Err.end.cause _ _ _ _
    c.in-Err.ensures.fault c.in-Err.ensures.recent c.in-Err.ensures.reason)

pub returns-in-Some-clause-version : goal.returns-in-Some-clause-version
returns-in-Some-clause-version g c = λ none.
    first_version _ _ _ _ _ _ _ c.in-Some.is c.in-Ok.ensures.takes none

pub returns-in-Some-clause-same : goal.returns-in-Some-clause-same
returns-in-Some-clause-same g c =
    given_version _ _ _ _ _ _ _ c.in-Some.is c.in-Ok.ensures.takes
