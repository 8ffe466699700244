use Rattle.std.proofs.Common.{◌≡◌, ◌∷◌, [], Err, inl, inr, refl, subst, ◌∙◌, arith}
use Rattle.std.specs.Prelude.{IfErr}
use Rattle.std.proofs.lemmas.Result.{err_from_is_err_and}
use Rattle.fux_port.specs.Counts.{Rose}
use Rattle.fux_port.specs.Promises.{ServesWhole}
use Rattle.fux_port.proofs.Rises.{rose_later}
use Rattle.works.specs.TaskFiles.{as_list}
use Rattle.command_words.specs.Commands.{check, drill, explain, fromsmf, on_exercise, sheet_named}
use Rattle.works.specs.Endings.{IsMade}
use Rattle.works.specs.Blame.{IsReadWithin, IsUnserved}
use Rattle.works.specs.Works.{AreRead, ChecksText}
use Rattle.works.proofs.BlameLemmas.{blames_within, names_kept, result_blames_none, served_later, sheet_blames, text_blames, whole_kept}
use Rattle.works.proofs.LittleLemmas.{check_little, reads_on}
use Rattle.works.proofs.CheckLemmas.{checked_said, of_check}
use Rattle.works.proofs.MakeLemmas.{first_unread, have_bytes, made_said, of_none, of_one, of_text, of_two, read_same, sheet_unread}
use Rattle.works.proofs.NearLemmas.{check_stops, each_output, said_near}
use Rattle.works.proofs.making.make.Goals as goal

-- ---- on an exercise

pub returns-in_err-text-in-OnExercise : goal.returns-in_err-text-in-OnExercise
returns-in_err-text-in-OnExercise g c =
    let files = g.F.Shelf.files c.args.shelf.now in
    let rose = Rose (g.F.Shelf.faults c.args.shelf.now) (g.F.Shelf.faults c.read_content.new.shelf) in
    let name = c.in-OnExercise.name.now in
    let sheet = sheet_named c.in-OnExercise.sheet in
    let task = on_exercise name sheet c.in-OnExercise.job in
    let told = err_from_is_err_and c.from_residual.result c.from_residual.ensures.1 in
    let read = c.in_err-text-in-OnExercise.ensures in
    record {
      made = rw (c.in-OnExercise.is, told.1, told.2) (first_unread name (as_list sheet) files rose 65536 _
          (λ complaint. IsMade task files rose (Err complaint)) (λ file is. inl is) tt read.reads);
      served = rw (c.in-OnExercise.is, told.1, told.2) (λ promised. read.served promised.before.0);
      blamed = rw (c.in-OnExercise.is, told.1, told.2) (text_blames (IsUnserved (g.F.Shelf.serves c.args.shelf.now) files task)
          65536 _ _ (g.F.Shelf.serves c.args.shelf.now) name _ read.reads read.served
          (λ denied. inl ((0, omega arith, refl), denied)));
      little = rw c.in-OnExercise.is (inl (omega (arith, c.read_content.ensures.little)));
      near = rw told.1 tt;
      files = c.read_content.ensures.files;
    }

pub returns-in_err-weights-in-OnExercise : goal.returns-in_err-weights-in-OnExercise
returns-in_err-weights-in-OnExercise g c =
    let files = g.F.Shelf.files in
    let faults = g.F.Shelf.faults in
    let serves = g.F.Shelf.serves in
    let name = c.in-OnExercise.name.now in
    let sheet = sheet_named c.in-OnExercise.sheet in
    let task = on_exercise name sheet c.in-OnExercise.job in
    let told = err_from_is_err_and c.from_residual-in_err-weights-in-OnExercise.result
    c.from_residual-in_err-weights-in-OnExercise.ensures.1 in
    let first = c.in_ok-text-in-OnExercise.ensures in
    let read = c.in_err-weights-in-OnExercise.ensures in
    record {
      made = rw (c.in-OnExercise.is, told.1, told.2) (sheet_unread name sheet (files c.args.shelf.now)
          (files c.read_content.new.shelf) (Rose (faults c.args.shelf.now) (faults c.read_weights.new.shelf))
          (Rose (faults c.read_content.new.shelf) (faults c.read_weights.new.shelf)) 65536 c.in_ok-text-in-OnExercise.text _
          (λ complaint. IsMade task (files c.args.shelf.now)
          (Rose (faults c.args.shelf.now) (faults c.read_weights.new.shelf)) (Err complaint))
          (λ file is. inl is) tt first.reads first.files (rose_later _ _ _ first.faults) read.reads);
      served = rw (c.in-OnExercise.is, told.1, told.2) (λ promised. read.served
          (names_kept (serves c.args.shelf.now) (serves c.read_content.new.shelf) 65536 (as_list sheet) first.serving
          promised.before.1));
      blamed = rw (c.in-OnExercise.is, told.1, told.2) (sheet_blames (IsUnserved (serves c.args.shelf.now)
          (files c.args.shelf.now) task) _ _ (serves c.args.shelf.now) (serves c.read_content.new.shelf) sheet _ read.reads
          first.serving read.served
          (λ other one. inl (served_later (serves c.args.shelf.now) 65536 name (as_list sheet) other one)));
      little = rw c.in-OnExercise.is (inl (omega (arith, c.read_content.ensures.little, c.read_weights.ensures.little)));
      near = rw told.1 tt;
      files = c.read_weights.ensures.files ∙ c.read_content.ensures.files;
    }

pub returns-in_ok-weights-in-OnExercise : goal.returns-in_ok-weights-in-OnExercise
returns-in_ok-weights-in-OnExercise g c =
    let files = g.F.Shelf.files c.args.shelf.now in
    let name = c.in-OnExercise.name.now in
    let sheet = sheet_named c.in-OnExercise.sheet in
    let job = c.in-OnExercise.job in
    let text = c.in_ok-text-in-OnExercise.text in
    let weights = c.in_ok-weights-in-OnExercise.weights in
    record {
      made = rw c.in-OnExercise.is (made_said (on_exercise name sheet job) files _ (text ∷ as_list weights) c.of_texts.result
          c.said.result (
            c.in_ok-text-in-OnExercise.ensures.reads,
            read_same 65536 files _ (as_list sheet) (as_list weights) c.in_ok-text-in-OnExercise.ensures.files
                c.in_ok-weights-in-OnExercise.ensures.reads,
          )
          (of_two files name sheet job text weights c.of_texts.result c.of_texts.ensures) c.said.ensures.says);
      served = λ promised. c.said.ensures.reads;
      blamed = rw c.in-OnExercise.is (result_blames_none (IsUnserved (g.F.Shelf.serves c.args.shelf.now) files
          (on_exercise name sheet job)) c.said.result c.said.ensures.reads);
      little = rw c.in-OnExercise.is (inl (omega (arith, c.read_content.ensures.little, c.read_weights.ensures.little)));
      near = rw c.in-OnExercise.is (each_output c.said.result);
      files = c.read_weights.ensures.files ∙ c.read_content.ensures.files;
    }

-- ---- of a certificate

pub returns-in_err-text-in-Check : goal.returns-in_err-text-in-Check
returns-in_err-text-in-Check g c =
    let files = g.F.Shelf.files c.args.shelf.now in
    let rose = Rose (g.F.Shelf.faults c.args.shelf.now) (g.F.Shelf.faults c.read_content-in-Check.new.shelf) in
    let name = c.in-Check.name.now in
    let sheet = sheet_named c.in-Check.sheet in
    let task = check name c.in-Check.certificate.now sheet in
    let told = err_from_is_err_and c.from_residual-in_err-text-in-Check.result
    c.from_residual-in_err-text-in-Check.ensures.1 in
    let read = c.in_err-text-in-Check.ensures in
    record {
      made = rw (c.in-Check.is, told.1, told.2) (first_unread name (as_list sheet) files rose 65536 _
          (λ complaint. IsMade task files rose (Err complaint)) (λ file is. inl is) tt read.reads);
      served = rw (c.in-Check.is, told.1, told.2) (λ promised. read.served promised.before.0);
      blamed = rw (c.in-Check.is, told.1, told.2) (text_blames (IsUnserved (g.F.Shelf.serves c.args.shelf.now) files task)
          65536 _ _ (g.F.Shelf.serves c.args.shelf.now) name _ read.reads read.served
          (λ denied. inl ((0, omega arith, refl), denied)));
      little = rw c.in-Check.is (inl (omega (arith, c.read_content-in-Check.ensures.little)));
      near = rw told.1 tt;
      files = c.read_content-in-Check.ensures.files;
    }

pub returns-in_err-weights-in-Check : goal.returns-in_err-weights-in-Check
returns-in_err-weights-in-Check g c =
    let files = g.F.Shelf.files in
    let faults = g.F.Shelf.faults in
    let serves = g.F.Shelf.serves in
    let name = c.in-Check.name.now in
    let sheet = sheet_named c.in-Check.sheet in
    let task = check name c.in-Check.certificate.now sheet in
    let told = err_from_is_err_and c.from_residual-in_err-weights-in-Check.result
    c.from_residual-in_err-weights-in-Check.ensures.1 in
    let first = c.in_ok-text-in-Check.ensures in
    let read = c.in_err-weights-in-Check.ensures in
    record {
      made = rw (c.in-Check.is, told.1, told.2) (sheet_unread name sheet (files c.args.shelf.now)
          (files c.read_content-in-Check.new.shelf)
          (Rose (faults c.args.shelf.now) (faults c.read_weights-in-Check.new.shelf))
          (Rose (faults c.read_content-in-Check.new.shelf) (faults c.read_weights-in-Check.new.shelf)) 65536
          c.in_ok-text-in-Check.text _
          (λ complaint. IsMade task (files c.args.shelf.now)
          (Rose (faults c.args.shelf.now) (faults c.read_weights-in-Check.new.shelf)) (Err complaint))
          (λ file is. inl is) tt first.reads first.files (rose_later _ _ _ first.faults) read.reads);
      served = rw (c.in-Check.is, told.1, told.2) (λ promised. read.served
          (names_kept (serves c.args.shelf.now) (serves c.read_content-in-Check.new.shelf) 65536 (as_list sheet)
          first.serving promised.before.1));
      blamed = rw (c.in-Check.is, told.1, told.2) (sheet_blames (IsUnserved (serves c.args.shelf.now)
          (files c.args.shelf.now) task) _ _ (serves c.args.shelf.now) (serves c.read_content-in-Check.new.shelf) sheet _
          read.reads first.serving read.served
          (λ other one. inl (served_later (serves c.args.shelf.now) 65536 name (as_list sheet) other one)));
      little = rw c.in-Check.is (inl (omega (
        arith,
        c.read_content-in-Check.ensures.little,
        c.read_weights-in-Check.ensures.little,
      )));
      near = rw told.1 tt;
      files = c.read_weights-in-Check.ensures.files ∙ c.read_content-in-Check.ensures.files;
    }

pub returns-in_ok-weights-in-Check : goal.returns-in_ok-weights-in-Check
returns-in_ok-weights-in-Check g c =
    let files = g.F.Shelf.files in
    let faults = g.F.Shelf.faults in
    let serves = g.F.Shelf.serves in
    let given = g.F.Shelf.given in
    let name = c.in-Check.name.now in
    let certificate = c.in-Check.certificate.now in
    let sheet = sheet_named c.in-Check.sheet in
    let text = c.in_ok-text-in-Check.text in
    let weights = c.in_ok-weights-in-Check.weights in
    let first = c.in_ok-text-in-Check.ensures in
    let second = c.in_ok-weights-in-Check.ensures in
    let rose = Rose (faults c.args.shelf.now) (faults c.check_texts.new.shelf) in
    let read : AreRead 65536 (files c.args.shelf.now) (name ∷ as_list sheet) (text ∷ as_list weights) = (
      first.reads,
      read_same 65536 (files c.args.shelf.now) (files c.read_content-in-Check.new.shelf) (as_list sheet) (as_list weights)
          first.files second.reads,
    ) in
    let known = have_bytes 65536 (files c.args.shelf.now) (name ∷ as_list sheet) (text ∷ as_list weights) read in
    let kept = λ (promised : ServesWhole (serves c.args.shelf.now) certificate 1073741824).
    whole_kept (serves c.read_content-in-Check.new.shelf) (serves c.read_weights-in-Check.new.shelf)
    certificate 1073741824 second.serving
    (whole_kept (serves c.args.shelf.now) (serves c.read_content-in-Check.new.shelf) certificate 1073741824 first.serving
    promised) in
    record {
      made = rw c.in-Check.is (checked_said name certificate sheet (files c.args.shelf.now) rose (text ∷ as_list weights)
          c.check_texts.result c.said_within.result read
          (of_check name certificate sheet (files c.args.shelf.now) rose (files c.read_weights-in-Check.new.shelf)
          (Rose (faults c.read_weights-in-Check.new.shelf) (faults c.check_texts.new.shelf)) text weights
          c.check_texts.result (second.files ∙ first.files)
          (λ later. rose_later _ _ _ first.faults (rose_later _ _ _ second.faults later))
          c.check_texts.ensures.checks) c.said_within.ensures.says);
      served = rw c.in-Check.is (λ promised. c.said_within.ensures.reads (c.check_texts.ensures.served
          (kept (promised.within known.bytes known.had).0)));
      blamed = rw c.in-Check.is (blames_within
          (IsUnserved (serves c.args.shelf.now) (files c.args.shelf.now) (check name certificate sheet)) name certificate
          c.check_texts.result c.said_within.result c.said_within.ensures.says
          (λ is. inr (
            reads_on (files c.args.shelf.now) name certificate sheet text weights
                (λ bytes sheets. ChecksText (files c.read_weights-in-Check.new.shelf) certificate sheets bytes) _
                c.check_texts.result read c.check_texts.ensures.checks is,
            λ promised. subst (λ answer. IfErr answer IsReadWithin) is (c.check_texts.ensures.served (kept promised)),
          )));
      little = rw c.in-Check.is (check_little (files c.args.shelf.now) name certificate sheet known.bytes
          (given c.args.shelf.now) (given c.read_content-in-Check.new.shelf) (given c.read_weights-in-Check.new.shelf)
          (given c.check_texts.new.shelf) known.had c.read_content-in-Check.ensures.little
          c.read_weights-in-Check.ensures.little c.check_texts.ensures.little);
      near = rw c.in-Check.is (said_near name certificate _ c.check_texts.result c.said_within.result
          (check_stops (files c.args.shelf.now) (files c.read_weights-in-Check.new.shelf) name certificate sheet text weights
          (given c.args.shelf.now) (given c.read_content-in-Check.new.shelf) (given c.read_weights-in-Check.new.shelf)
          (given c.check_texts.new.shelf) (λ output line. output.bytes ≡ line) c.check_texts.result read
          (second.files ∙ first.files) c.read_content-in-Check.ensures.little c.read_weights-in-Check.ensures.little
          c.check_texts.ensures.near) c.said_within.ensures.says);
      files = c.check_texts.ensures.files
          ∙ (c.read_weights-in-Check.ensures.files ∙ c.read_content-in-Check.ensures.files);
    }

pub returns-in-CheckCantus : goal.returns-in-CheckCantus
returns-in-CheckCantus g c =
    let is = c.in-CheckCantus.is in
    let it = c.checked_cantus.ensures in
    record {
      made = rw is it.made;
      served = rw is it.served;
      blamed = rw is it.blamed;
      little = rw is it.little;
      near = rw is it.near;
      files = it.files;
    }

-- ---- of one file

pub returns-in_err-text-in-Explain : goal.returns-in_err-text-in-Explain
returns-in_err-text-in-Explain g c =
    let files = g.F.Shelf.files c.args.shelf.now in
    let rose = Rose (g.F.Shelf.faults c.args.shelf.now) (g.F.Shelf.faults c.read_content-in-Explain.new.shelf) in
    let name = c.in-Explain.name.now in
    let task = explain name c.in-Explain.subject in
    let told = err_from_is_err_and c.from_residual-in_err-text-in-Explain.result
    c.from_residual-in_err-text-in-Explain.ensures.1 in
    let read = c.in_err-text-in-Explain.ensures in
    record {
      made = rw (c.in-Explain.is, told.1, told.2) (first_unread name [] files rose 65536 _
          (λ complaint. IsMade task files rose (Err complaint)) (λ file is. inl is) tt read.reads);
      served = rw (c.in-Explain.is, told.1, told.2) (λ promised. read.served promised.before.0);
      blamed = rw (c.in-Explain.is, told.1, told.2) (text_blames (IsUnserved (g.F.Shelf.serves c.args.shelf.now) files task)
          65536 _ _ (g.F.Shelf.serves c.args.shelf.now) name _ read.reads read.served
          (λ denied. inl ((0, omega arith, refl), denied)));
      little = rw c.in-Explain.is (inl (omega (arith, c.read_content-in-Explain.ensures.little)));
      near = rw told.1 tt;
      files = c.read_content-in-Explain.ensures.files;
    }

pub returns-in_ok-text-in-Explain : goal.returns-in_ok-text-in-Explain
returns-in_ok-text-in-Explain g c =
    let files = g.F.Shelf.files c.args.shelf.now in
    let name = c.in-Explain.name.now in
    let subject = c.in-Explain.subject in
    let text = c.in_ok-text-in-Explain.text in
    let said = c.said-in-Explain.ensures in
    record {
      made = rw c.in-Explain.is (made_said (explain name subject) files _ (text ∷ []) c.explain.result c.said-in-Explain.result
          (c.in_ok-text-in-Explain.ensures.reads, tt)
          (of_text files name subject text c.explain.result c.explain.ensures) said.says);
      served = λ promised. said.reads;
      blamed = rw c.in-Explain.is (result_blames_none (IsUnserved (g.F.Shelf.serves c.args.shelf.now) files
          (explain name subject)) c.said-in-Explain.result said.reads);
      little = rw c.in-Explain.is (inl (omega (arith, c.read_content-in-Explain.ensures.little)));
      near = rw c.in-Explain.is (each_output c.said-in-Explain.result);
      files = c.read_content-in-Explain.ensures.files;
    }

pub returns-in_err-file-in-FromSmf : goal.returns-in_err-file-in-FromSmf
returns-in_err-file-in-FromSmf g c =
    let files = g.F.Shelf.files c.args.shelf.now in
    let rose = Rose (g.F.Shelf.faults c.args.shelf.now) (g.F.Shelf.faults c.read_content-in-FromSmf.new.shelf) in
    let name = c.in-FromSmf.name.now in
    let task = fromsmf name c.in-FromSmf.head in
    let told = err_from_is_err_and c.from_residual-in_err-file-in-FromSmf.result
    c.from_residual-in_err-file-in-FromSmf.ensures.1 in
    let read = c.in_err-file-in-FromSmf.ensures in
    record {
      made = rw (c.in-FromSmf.is, told.1, told.2) (first_unread name [] files rose 1048576 _
          (λ complaint. IsMade task files rose (Err complaint)) (λ file is. inl is) tt read.reads);
      served = rw (c.in-FromSmf.is, told.1, told.2) (λ promised. read.served promised.before.0);
      blamed = rw (c.in-FromSmf.is, told.1, told.2) (text_blames (IsUnserved (g.F.Shelf.serves c.args.shelf.now) files task)
          1048576 _ _ (g.F.Shelf.serves c.args.shelf.now) name _ read.reads read.served
          (λ denied. inl ((0, omega arith, refl), denied)));
      little = rw c.in-FromSmf.is (inl (omega (arith, c.read_content-in-FromSmf.ensures.little)));
      near = rw told.1 tt;
      files = c.read_content-in-FromSmf.ensures.files;
    }

pub returns-in_ok-file-in-FromSmf : goal.returns-in_ok-file-in-FromSmf
returns-in_ok-file-in-FromSmf g c =
    let files = g.F.Shelf.files c.args.shelf.now in
    let name = c.in-FromSmf.name.now in
    let head = c.in-FromSmf.head in
    let file = c.in_ok-file-in-FromSmf.file in
    let said = c.said-in-FromSmf.ensures in
    record {
      made = rw c.in-FromSmf.is (made_said (fromsmf name head) files _ (file ∷ []) c.from_smf.result c.said-in-FromSmf.result
          (c.in_ok-file-in-FromSmf.ensures.reads, tt)
          (of_one files name head file c.from_smf.result c.from_smf.ensures) said.says);
      served = λ promised. said.reads;
      blamed = rw c.in-FromSmf.is (result_blames_none (IsUnserved (g.F.Shelf.serves c.args.shelf.now) files
          (fromsmf name head)) c.said-in-FromSmf.result said.reads);
      little = rw c.in-FromSmf.is (inl (omega (arith, c.read_content-in-FromSmf.ensures.little)));
      near = rw c.in-FromSmf.is (each_output c.said-in-FromSmf.result);
      files = c.read_content-in-FromSmf.ensures.files;
    }

-- ---- of none

pub returns-in-Drill : goal.returns-in-Drill
returns-in-Drill g c =
    let files = g.F.Shelf.files c.args.shelf.now in
    let number = c.in-Drill.number in
    let by_sharper = c.in-Drill.by_sharper in
    let said = c.said-in-Drill.ensures in
    record {
      made = rw c.in-Drill.is (made_said (drill number by_sharper) files _ [] c.drill.result c.said-in-Drill.result tt
          (of_none files number by_sharper c.drill.result c.drill.ensures) said.says);
      served = λ promised. said.reads;
      blamed = rw c.in-Drill.is (result_blames_none (IsUnserved (g.F.Shelf.serves c.args.shelf.now) files
          (drill number by_sharper)) c.said-in-Drill.result said.reads);
      little = rw c.in-Drill.is (inl (omega arith));
      near = rw c.in-Drill.is (each_output c.said-in-Drill.result);
      files = refl;
    }

-- ---- of files that another function reads

pub returns-in-OnMixed : goal.returns-in-OnMixed
returns-in-OnMixed g c =
    let is = c.in-OnMixed.is in
    let it = c.on_mixed.ensures in
    record {
      made = rw is it.made;
      served = rw is it.served;
      blamed = rw is it.blamed;
      little = rw is it.little;
      near = rw is (each_output c.on_mixed.result);
      files = it.files;
    }

pub returns-in-JoinSmf : goal.returns-in-JoinSmf
returns-in-JoinSmf g c =
    let is = c.in-JoinSmf.is in
    let it = c.join.ensures in
    record {
      made = rw is it.made;
      served = rw is it.served;
      blamed = rw is it.blamed;
      little = rw is it.little;
      near = rw is (each_output c.join.result);
      files = it.files;
    }

pub returns-in-MarkAnswer : goal.returns-in-MarkAnswer
returns-in-MarkAnswer g c =
    let is = c.in-MarkAnswer.is in
    let it = c.answer.ensures in
    record {
      made = rw is it.made;
      served = rw is it.served;
      blamed = rw is it.blamed;
      little = rw is it.little;
      near = rw is (each_output c.answer.result);
      files = it.files;
    }

pub returns-in-Class : goal.returns-in-Class
returns-in-Class g c =
    let is = c.in-Class.is in
    let it = c.class.ensures in
    record {
      made = rw is it.made;
      served = rw is it.served;
      blamed = rw is it.blamed;
      little = rw is it.little;
      near = rw is (each_output c.class.result);
      files = it.files;
    }

pub returns-in-ClassFiles : goal.returns-in-ClassFiles
returns-in-ClassFiles g c =
    let is = c.in-ClassFiles.is in
    let it = c.class_files.ensures in
    record {
      made = rw is it.made;
      served = rw is it.served;
      blamed = rw is it.blamed;
      little = rw is it.little;
      near = rw is (each_output c.class_files.result);
      files = it.files;
    }

pub returns-in-Canon : goal.returns-in-Canon
returns-in-Canon g c =
    let is = c.in-Canon.is in
    let it = c.canon.ensures in
    record {
      made = rw is it.made;
      served = rw is it.served;
      blamed = rw is it.blamed;
      little = rw is it.little;
      near = rw is (each_output c.canon.result);
      files = it.files;
    }

pub returns-in-NewCantus : goal.returns-in-NewCantus
returns-in-NewCantus g c =
    let is = c.in-NewCantus.is in
    let it = c.new_cantus.ensures in
    record {
      made = rw is it.made;
      served = rw is it.served;
      blamed = rw is it.blamed;
      little = rw is it.little;
      near = rw is (each_output c.new_cantus.result);
      files = it.files;
    }
