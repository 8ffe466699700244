use Rattle.std.proofs.Common.{ap, sym}
use Rattle.command_words.specs.declared.verbs.Verb.{Verb}
use Rattle.command_words.specs.Verbs.{row_of}
use Rattle.command_words.proofs.verbs.Verb.row.Goals as goal

pub returns-in-Compose : goal.returns-in-Compose
returns-in-Compose c = record {
  word = ap (λ (v : Verb). (row_of v).0) (sym c.in-Compose.is);
  parts = ap (λ (v : Verb). (row_of v).1) (sym c.in-Compose.is);
}

pub returns-in-Best : goal.returns-in-Best
returns-in-Best c = record {
  word = ap (λ (v : Verb). (row_of v).0) (sym c.in-Best.is);
  parts = ap (λ (v : Verb). (row_of v).1) (sym c.in-Best.is);
}

pub returns-in-Certify : goal.returns-in-Certify
returns-in-Certify c = record {
  word = ap (λ (v : Verb). (row_of v).0) (sym c.in-Certify.is);
  parts = ap (λ (v : Verb). (row_of v).1) (sym c.in-Certify.is);
}

pub returns-in-Check : goal.returns-in-Check
returns-in-Check c = record {
  word = ap (λ (v : Verb). (row_of v).0) (sym c.in-Check.is);
  parts = ap (λ (v : Verb). (row_of v).1) (sym c.in-Check.is);
}

pub returns-in-Mark : goal.returns-in-Mark
returns-in-Mark c = record {
  word = ap (λ (v : Verb). (row_of v).0) (sym c.in-Mark.is);
  parts = ap (λ (v : Verb). (row_of v).1) (sym c.in-Mark.is);
}

pub returns-in-Explain : goal.returns-in-Explain
returns-in-Explain c = record {
  word = ap (λ (v : Verb). (row_of v).0) (sym c.in-Explain.is);
  parts = ap (λ (v : Verb). (row_of v).1) (sym c.in-Explain.is);
}

pub returns-in-Cantus : goal.returns-in-Cantus
returns-in-Cantus c = record {
  word = ap (λ (v : Verb). (row_of v).0) (sym c.in-Cantus.is);
  parts = ap (λ (v : Verb). (row_of v).1) (sym c.in-Cantus.is);
}

pub returns-in-Print : goal.returns-in-Print
returns-in-Print c = record {
  word = ap (λ (v : Verb). (row_of v).0) (sym c.in-Print.is);
  parts = ap (λ (v : Verb). (row_of v).1) (sym c.in-Print.is);
}

pub returns-in-ToSmf : goal.returns-in-ToSmf
returns-in-ToSmf c = record {
  word = ap (λ (v : Verb). (row_of v).0) (sym c.in-ToSmf.is);
  parts = ap (λ (v : Verb). (row_of v).1) (sym c.in-ToSmf.is);
}

pub returns-in-FromSmf : goal.returns-in-FromSmf
returns-in-FromSmf c = record {
  word = ap (λ (v : Verb). (row_of v).0) (sym c.in-FromSmf.is);
  parts = ap (λ (v : Verb). (row_of v).1) (sym c.in-FromSmf.is);
}

pub returns-in-JoinSmf : goal.returns-in-JoinSmf
returns-in-JoinSmf c = record {
  word = ap (λ (v : Verb). (row_of v).0) (sym c.in-JoinSmf.is);
  parts = ap (λ (v : Verb). (row_of v).1) (sym c.in-JoinSmf.is);
}

pub returns-in-Drill : goal.returns-in-Drill
returns-in-Drill c = record {
  word = ap (λ (v : Verb). (row_of v).0) (sym c.in-Drill.is);
  parts = ap (λ (v : Verb). (row_of v).1) (sym c.in-Drill.is);
}

pub returns-in-Class : goal.returns-in-Class
returns-in-Class c = record {
  word = ap (λ (v : Verb). (row_of v).0) (sym c.in-Class.is);
  parts = ap (λ (v : Verb). (row_of v).1) (sym c.in-Class.is);
}

pub returns-in-Canon : goal.returns-in-Canon
returns-in-Canon c = record {
  word = ap (λ (v : Verb). (row_of v).0) (sym c.in-Canon.is);
  parts = ap (λ (v : Verb). (row_of v).1) (sym c.in-Canon.is);
}

pub returns-in-Mixed : goal.returns-in-Mixed
returns-in-Mixed c = record {
  word = ap (λ (v : Verb). (row_of v).0) (sym c.in-Mixed.is);
  parts = ap (λ (v : Verb). (row_of v).1) (sym c.in-Mixed.is);
}

pub returns-in-MarkMixed : goal.returns-in-MarkMixed
returns-in-MarkMixed c = record {
  word = ap (λ (v : Verb). (row_of v).0) (sym c.in-MarkMixed.is);
  parts = ap (λ (v : Verb). (row_of v).1) (sym c.in-MarkMixed.is);
}

pub returns-in-Weigh : goal.returns-in-Weigh
returns-in-Weigh c = record {
  word = ap (λ (v : Verb). (row_of v).0) (sym c.in-Weigh.is);
  parts = ap (λ (v : Verb). (row_of v).1) (sym c.in-Weigh.is);
}

pub returns-in-ToXml : goal.returns-in-ToXml
returns-in-ToXml c = record {
  word = ap (λ (v : Verb). (row_of v).0) (sym c.in-ToXml.is);
  parts = ap (λ (v : Verb). (row_of v).1) (sym c.in-ToXml.is);
}

pub returns-in-MarkXml : goal.returns-in-MarkXml
returns-in-MarkXml c = record {
  word = ap (λ (v : Verb). (row_of v).0) (sym c.in-MarkXml.is);
  parts = ap (λ (v : Verb). (row_of v).1) (sym c.in-MarkXml.is);
}

pub returns-in-Picture : goal.returns-in-Picture
returns-in-Picture c = record {
  word = ap (λ (v : Verb). (row_of v).0) (sym c.in-Picture.is);
  parts = ap (λ (v : Verb). (row_of v).1) (sym c.in-Picture.is);
}

pub returns-in-MarkPicture : goal.returns-in-MarkPicture
returns-in-MarkPicture c = record {
  word = ap (λ (v : Verb). (row_of v).0) (sym c.in-MarkPicture.is);
  parts = ap (λ (v : Verb). (row_of v).1) (sym c.in-MarkPicture.is);
}

pub returns-in-NewCantus : goal.returns-in-NewCantus
returns-in-NewCantus c = record {
  word = ap (λ (v : Verb). (row_of v).0) (sym c.in-NewCantus.is);
  parts = ap (λ (v : Verb). (row_of v).1) (sym c.in-NewCantus.is);
}

pub returns-in-CertCantus : goal.returns-in-CertCantus
returns-in-CertCantus c = record {
  word = ap (λ (v : Verb). (row_of v).0) (sym c.in-CertCantus.is);
  parts = ap (λ (v : Verb). (row_of v).1) (sym c.in-CertCantus.is);
}

pub returns-in-CheckCantus : goal.returns-in-CheckCantus
returns-in-CheckCantus c = record {
  word = ap (λ (v : Verb). (row_of v).0) (sym c.in-CheckCantus.is);
  parts = ap (λ (v : Verb). (row_of v).1) (sym c.in-CheckCantus.is);
}
