-- Why a filter is refused, by what the engine has in memory.
use Rattle.std.specs.Prelude.{ℕ, List, [], ◌∷◌, length, Option, if◌then◌else◌}
use Rattle.std.specs.Option.{option_or}
use Rattle.tap_base.specs.Words.{has_text}
use Rattle.mail_lines.specs.declared.block.Block.{Block}
use Rattle.script_lang.specs.declared.refusal.Refusal.{Refusal}
use Rattle.script_lang.specs.declared.refusal.LimitName.TheVariants.{Users, Filters, Store}
use Rattle.tap_model.specs.Limits.{user_limit, filter_limit, store_limit}
use Rattle.tap_model.specs.Limits.{limit_refusal}
use Rattle.tap_model.specs.Sessions.{user_of}
use Rattle.tap_model.specs.Verdicts.{first_refusal, no_moment, no_user, long_filter, filter_fault, block_text}
use Rattle.tap_engine.specs.declared.engine.Engine.{Engine}

-- the limits that a filter of this user and length may pass, in order
unfoldable pub filter_limits : Engine → List ℕ → ℕ → List (Option Refusal)
filter_limits engine user len =
    limit_refusal Users user_limit (length engine.owners) (if has_text engine.owners user then 0 else 1)
    ∷ limit_refusal Filters filter_limit (length engine.filters) 1
    ∷ limit_refusal Store store_limit engine.bytes len
    ∷ []

-- why a filter is refused before its text is read
abbrev pub early_filter : Engine → Block → Option Refusal
early_filter engine block =
    option_or (no_moment engine.session)
    (option_or (no_user engine.session)
    (option_or (long_filter block)
    (first_refusal (filter_limits engine (user_of engine.session) (length (block_text block))))))

-- why a filter is refused
abbrev pub filter_refusal : Engine → Block → Option Refusal
filter_refusal engine block =
    option_or (no_moment engine.session)
    (option_or (no_user engine.session)
    (option_or (long_filter block)
    (option_or (first_refusal (filter_limits engine (user_of engine.session) (length (block_text block))))
    (filter_fault (block_text block)))))
