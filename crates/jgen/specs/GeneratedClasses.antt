-- The class files of a made job.
use Rattle.std.specs.Prelude.{ℕ, zero, suc, ◌+◌, Bool, List, [], ◌∷◌, ◌++◌, codes, decimal, ◌==◌, if◌then◌else◌}
use Rattle.jparts.specs.declared.jpool.entry.Entry.TheVariants.{Unused}
use Rattle.jparts.specs.jpool.PoolEntries.{shape}
use Rattle.jgen.specs.declared.draws.Kind.{Kind}
use Rattle.jgen.specs.declared.laying.Draft.{Draft}
use Rattle.jgen.specs.ClassFileItems.{Item, U1, U2, Text, Class, Field, Method, Str, block, with_items}

-- ---- names

-- the name of a class
abbrev pub name : ℕ → List ℕ
name i = codes "G" ++ decimal i

abbrev pub object : List ℕ
object = codes "java/lang/Object"

abbrev pub controller : List ℕ
controller = codes "java/security/AccessController"

abbrev pub property : List ℕ
property = codes "java/util/PropertyPermission"

abbrev pub refusal : List ℕ
refusal = codes "java/security/AccessControlException"

-- ---- methods

-- a public method with one attribute
abbrev pub method : ℕ → List ℕ → List ℕ → List Item → List Item
method flags name type attribute = U2 flags ∷ Text name ∷ Text type ∷ U2 1 ∷ attribute

-- code: the depth of its stack, its locals, its instructions, its handlers, and its attributes
abbrev pub code : ℕ → ℕ → List Item → List Item → List Item → List Item
code stack locals instructions handlers attributes = Text (codes "Code") ∷ block (U2 stack ∷ U2 locals ∷ block instructions ++ handlers ++ attributes)

-- code without handlers and attributes
abbrev pub plain : List Item → List Item
plain instructions = code 1 1 instructions (U2 0 ∷ []) (U2 0 ∷ [])

-- aload_0; getfield n; invokestatic f of the next class; aconst_null; areturn
abbrev pub run_code : List ℕ → List ℕ → List Item
run_code own next = U1 0x2a ∷ U1 0xb4 ∷ Field own (codes "n") (codes "I") ∷ U1 0xb8 ∷ Method next (codes "f") (codes "(I)V") ∷ U1 1 ∷ U1 0xb0 ∷ []

-- 0 iload_0; 1 ifne 19; 4 new PropertyPermission; 7 dup; 8 ldc "p"; 10 ldc "read"; 12 its <init>; 15 checkPermission; 18 return
abbrev pub check_code : List Item
check_code =
    U1 0x1a ∷ U1 0x9a ∷ U2 18
    ∷ U1 0xbb ∷ Class property ∷ U1 0x59
    ∷ U1 0x12 ∷ Str (codes "p") ∷ U1 0x12 ∷ Str (codes "read")
    ∷ U1 0xb7 ∷ Method property (codes "<init>") (codes "(Ljava/lang/String;Ljava/lang/String;)V")
    ∷ U1 0xb8 ∷ Method controller (codes "checkPermission") (codes "(Ljava/security/Permission;)V")
    ∷ U1 0xb1 ∷ []

-- 19 iload_0; 20 iconst_1; 21 isub; 22 invokestatic f of the next class; 25 return; 26 pop; 27 return
abbrev pub call_code : List ℕ → List Item
call_code next = U1 0x1a ∷ U1 4 ∷ U1 0x64 ∷ U1 0xb8 ∷ Method next (codes "f") (codes "(I)V") ∷ U1 0xb1 ∷ U1 0x57 ∷ U1 0xb1 ∷ []

-- 19 new G; 22 dup; 23 its <init>; 26 dup; 27 iload_0; 28 iconst_1; 29 isub; 30 putfield n; 33 doPrivileged; 36 pop; 37 return; 38 pop;
-- 39 return
abbrev pub privileged_code : List ℕ → List Item
privileged_code own =
    U1 0xbb ∷ Class own ∷ U1 0x59 ∷ U1 0xb7 ∷ Method own (codes "<init>") (codes "()V")
    ∷ U1 0x59 ∷ U1 0x1a ∷ U1 4 ∷ U1 0x64 ∷ U1 0xb5 ∷ Field own (codes "n") (codes "I")
    ∷ U1 0xb8 ∷ Method controller (codes "doPrivileged") (codes "(Ljava/security/PrivilegedAction;)Ljava/lang/Object;")
    ∷ U1 0x57 ∷ U1 0xb1 ∷ U1 0x57 ∷ U1 0xb1 ∷ []

-- what a refused check goes to: the handler's place, behind 4 to 18
abbrev pub handler : ℕ → List Item
handler at = U2 1 ∷ U2 4 ∷ U2 18 ∷ U2 at ∷ Class refusal ∷ []

-- two frames: one at 19 with the parameter alone, and one so many bytes behind it with the exception on the stack
abbrev pub frames : ℕ → List Item
frames behind = U2 1 ∷ Text (codes "StackMapTable") ∷ block (U2 2 ∷ U1 19 ∷ U1 (64 + behind) ∷ U1 7 ∷ Class refusal ∷ [])

abbrev pub f_plain : List ℕ → List Item
f_plain next = code 4 1 (check_code ++ call_code next) (handler 26) (frames 6)

abbrev pub f_privileged : List ℕ → List Item
f_privileged own = code 4 1 (check_code ++ privileged_code own) (handler 38) (frames 18)

-- bipush 40; invokestatic f
abbrev pub call : List ℕ → List Item
call name = U1 0x10 ∷ U1 40 ∷ U1 0xb8 ∷ Method name (codes "f") (codes "(I)V") ∷ []

-- that of each of so many classes, from one on
unfoldable pub calls : ℕ → ℕ → List Item
calls i zero = []
calls i (suc n) = call (name i) ++ calls (i + 1) n

-- ---- classes

abbrev pub head : List ℕ → ℕ → List Item
head own methods =
    U2 0x21 ∷ Class own ∷ Class object ∷ U2 1 ∷ Class (codes "java/security/PrivilegedAction")
    ∷ U2 1 ∷ U2 1 ∷ Text (codes "n") ∷ Text (codes "I") ∷ U2 0
    ∷ U2 methods ∷ []

-- aload_0; invokespecial Object.<init>; return
abbrev pub init_method : List Item
init_method = method 1 (codes "<init>") (codes "()V") (plain (U1 0x2a ∷ U1 0xb7 ∷ Method object (codes "<init>") (codes "()V") ∷ U1 0xb1 ∷ []))

abbrev pub run_method : List ℕ → List ℕ → List Item
run_method own next = method 1 (codes "run") (codes "()Ljava/lang/Object;") (plain (run_code own next))

abbrev pub f_method : Bool → List ℕ → List ℕ → List Item
f_method privileged own next = method 9 (codes "f") (codes "(I)V") (if privileged then f_privileged own else f_plain next)

-- main, which calls each of so many classes
abbrev pub main_method : ℕ → List Item
main_method size = method 9 (codes "main") (codes "([Ljava/lang/String;)V") (plain (calls 0 size ++ U1 0xb1 ∷ []))

-- what stands behind the pool in the file of a class
unfoldable pub class_items : ℕ → ℕ → Kind → List Item
class_items size i kind =
    head (name i) (if i == 0 then 4 else 3)
    ++ init_method
    ++ run_method (name i) (name kind.next)
    ++ f_method kind.privileged (name i) (name kind.next)
    ++ (if i == 0 then main_method size else [])
    ++ U2 0 ∷ []

-- the bytes of a class file: the magic number, version 52.0, the pool, and what stands behind it
abbrev pub spelled : Draft → List ℕ
spelled d = 0xca ∷ 0xfe ∷ 0xba ∷ 0xbe ∷ 0 ∷ 0 ∷ 0 ∷ 52 ∷ shape.spell d.pool ++ d.body

unfoldable pub class_bytes : ℕ → ℕ → Kind → List ℕ
class_bytes size i kind = spelled (with_items (class_items size i kind) (record { pool = Unused ∷ []; body = [] }))
