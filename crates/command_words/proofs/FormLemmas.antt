-- What a command of `clap` is with one word, option or flag more (`added`, `grown`), and which rule
-- that word has (`is_needed`, `is_option`, `is_flag`).
use Rattle.std.proofs.Common.{◌≡◌, List, ℕ, Bool, true, false, Bor, Some, Result, Ok, Err, IfOk, ap, ◌∙◌}
use Rattle.clap.specs.Walk.{rule_of}
use Rattle.clap.specs.Words.{AddsArg, App, Rule, Text, app_of, new_rule, with_rule}
use Rattle.clap.specs.declared.builder.action.ArgAction.TheVariants.{SetTrue}
use Rattle.clap.specs.declared.builder.arg.Arg.{Arg}
use Rattle.clap.specs.declared.builder.command.Command.{Command}
use Rattle.command_words.specs.Forms.{flag_word, needed_word, option_word}

pub added : {X : Type 0} (result : Result Command X) (old : Command) (app : App) (arg : Arg) (rule : Rule) → app_of old
    ≡ app
    → arg.global ≡ false → rule_of arg ≡ rule → IfOk result (λ longer. AddsArg old arg longer)
    → IfOk result (λ longer. app_of longer ≡ with_rule app rule)
added (Ok longer) old app arg rule before local is adds =
    adds.shape local ∙ ap (with_rule (app_of old)) is ∙ ap (λ known. with_rule known rule) before
added (Err error) old app arg rule before local is adds = tt

pub is_needed : (name : Text) (start arg : Arg) → rule_of start ≡ new_rule name → arg ≡ record start { required = true }
    → rule_of arg ≡ needed_word name
is_needed name start arg is same = ap rule_of same ∙ ap {A = Rule} (λ rule. record rule { required = true }) is

pub is_option : (needed : Bool) (name : Bor (List ℕ)) (start long arg : Arg) → rule_of start ≡ new_rule name.now
    → long ≡ record start { long = Some name } → arg ≡ record long { required = needed } → rule_of arg
    ≡ option_word needed name.now
is_option needed name start long arg is longer same =
    ap rule_of same ∙ ap {A = Arg} (λ other. rule_of (record other { required = needed })) longer
    ∙ ap {A = Rule} (λ rule. record rule { long = Some name.now; required = needed }) is

pub is_flag : (name : Bor (List ℕ)) (start long arg : Arg) → rule_of start ≡ new_rule name.now
    → long ≡ record start { long = Some name } → arg ≡ record long { action = Some SetTrue } → rule_of arg
    ≡ flag_word name.now
is_flag name start long arg is longer same =
    ap rule_of same ∙ ap {A = Arg} (λ other. rule_of (record other { action = Some SetTrue })) longer
    ∙ ap {A = Rule} (λ rule. record rule { long = Some name.now; action = Some SetTrue }) is
